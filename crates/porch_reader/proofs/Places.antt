-- Where a token stands in its text.
use Rattle.std.proofs.Common.{◌≡◌, ℕ, List, Option, sym, ap, ◌∙◌}
use Rattle.std.specs.Prelude.{slice_get}
use Rattle.std.specs.Option.{option_map}
use Rattle.std.proofs.lemmas.Option.{slice_get-map}
use Rattle.porch_tree.specs.Grammar.{place_of}
use Rattle.porch_lex.specs.declared.token.Token.{Token}
use Rattle.porch_lex.specs.Words.{spelled, spelled_token}

pub place_in : (end : ℕ) (text : List ℕ) (ts : List Token) (i : ℕ) (o : Option Token) → o ≡ slice_get ts i
    → place_of end (slice_get (spelled text ts) i) ≡ place_of end (option_map (spelled_token text) o)
place_in end text ts i o e =
    ap (place_of end) (slice_get-map (spelled_token text) ts i ∙ ap (option_map (spelled_token text)) (sym e))
