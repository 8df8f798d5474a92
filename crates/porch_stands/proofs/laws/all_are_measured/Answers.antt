use Rattle.porch_stands.proofs.laws.all_are_measured.Goals as goal

pub returns : goal.returns
returns c = λ under types is are. record {
  is = is;
  multiple = c.rounding_up_is_least.ensures.multiple;
  after = c.rounding_up_is_least.ensures.after;
  bounded = λ ty known. c.extents_are_bounded.ensures under types ty is are known;
  adds_up = λ number ty e. c.extents_add_up.ensures.parts under types number ty are e;
  apart = λ ty a b known less. c.leaves_lie_apart.ensures under types ty a b is are known less;
  elements = λ ty n known. c.elements_are_aligned.ensures.place under types ty n is are known;
  scalar = λ root leaf known. c.leaves_are_scalars.ensures.scalar types root leaf are known;
  alone = λ ty leaf scalar. c.leaf_types_go_by_parts.ensures.scalar types ty leaf scalar;
  stay = c.other_bytes_stay.ensures.parts;
  sizes = c.other_bytes_stay.ensures.sizes;
  back = c.numbers_are_read_back.ensures.back;
}
