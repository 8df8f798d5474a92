use Rattle.std.proofs.Common.{refl}
use Rattle.porch_source.specs.Comments.{without_comments}
use Rattle.porch_source.proofs.Kept.{places_kept, tokens_kept}
use Rattle.porch_source.proofs.laws.tokens_keep_their_places.Goals as goal

pub returns : goal.returns
returns c = record {
  bytes = λ text ts h. places_kept text ts 0 (c.tokens_stand_in_order.ensures.rising text ts h);
  tokens = λ text ts h. tokens_kept text (without_comments text ts) ts 0 (c.tokens_stand_in_order.ensures.rising text ts h) refl;
}
