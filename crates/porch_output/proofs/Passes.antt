-- Pieces of a list one after another, and what a buffer passes on of them.
use Rattle.std.proofs.Common.{◌≡◌, ℕ, ◌+◌, ◌-◌, List, ◌++◌, length, take, drop, sym, ◌∙◌, ap, arith, append_assoc, length-drop, Result, OnErr, Ok, Err}
use Rattle.std.proofs.lemmas.List.{take-append-drop, take_all}
use Rattle.std.proofs.Math.Seq.{take-add}
use Rattle.std.specs.declared.option.Option.{Option}
use Rattle.porch_edge.specs.Streams.{GrewByPrefix, Grew-twice}
use Rattle.porch_output.specs.Shows.{PassesOn}

-- what holds holds of a failure
pub on_failure : {T E : Type 0} (r : Result T E) (P : Type 0) → P → OnErr r P
on_failure (Ok x) P holds = tt
on_failure (Err e) P holds = holds

-- what is left behind the first bytes
pub rest_is : (taken : ℕ) (bytes : List ℕ) → take (length bytes - taken) (drop taken bytes) ≡ drop taken bytes
rest_is taken bytes = take_all (length bytes - taken) (drop taken bytes) (omega (arith, length-drop taken bytes))

-- the first bytes, and the next ones
pub next_piece : (taken count : ℕ) (bytes : List ℕ) → take (taken + count) bytes ≡ take taken bytes ++ take count (take (length bytes - taken) (drop taken bytes))
next_piece taken count bytes = take-add taken count bytes ∙ ap (λ (l : List ℕ). take taken bytes ++ take count l) (sym (rest_is taken bytes))

-- the first bytes, and all behind them
pub all_pieces : (taken : ℕ) (bytes : List ℕ) → bytes ≡ take taken bytes ++ take (length bytes - taken) (drop taken bytes)
all_pieces taken bytes = sym (take-append-drop taken bytes) ∙ ap (λ (l : List ℕ). take taken bytes ++ l) (sym (rest_is taken bytes))

module _ (a b c : Option (List ℕ)) where
  pub passes_joins : (start first more all rest last : List ℕ) → all ≡ first ++ more → PassesOn a b (start ++ first) rest → PassesOn b c (rest ++ more) last → PassesOn a c (start ++ all) last
  passes_joins start first more all rest last is one two = record {
    front = one.front ++ two.front;
    split =
        ap (λ (l : List ℕ). start ++ l) is ∙ sym (append_assoc start first more) ∙ ap (λ (l : List ℕ). l ++ more) one.split ∙ append_assoc one.front rest more ∙ ap (λ (l : List ℕ). one.front ++ l) two.split
        ∙ sym (append_assoc one.front two.front last);
    grew = Grew-twice a b c one.front two.front one.grew two.grew;
  }

  pub passes_fails : (start first more all rest : List ℕ) → all ≡ first ++ more → PassesOn a b (start ++ first) rest → GrewByPrefix b c (rest ++ more) → GrewByPrefix a c (start ++ all)
  passes_fails start first more all rest is one two = record {
    more = one.front ++ two.more;
    missing = two.missing;
    split =
        ap (λ (l : List ℕ). start ++ l) is ∙ sym (append_assoc start first more) ∙ ap (λ (l : List ℕ). l ++ more) one.split ∙ append_assoc one.front rest more ∙ ap (λ (l : List ℕ). one.front ++ l) two.split
        ∙ sym (append_assoc one.front two.more two.missing);
    grew = Grew-twice a b c one.front two.more one.grew two.grew;
  }

-- a beginning of less is one of more
pub fails_longer : (a b : Option (List ℕ)) (start first rest all short : List ℕ) → short ≡ start ++ first → all ≡ first ++ rest → GrewByPrefix a b short → GrewByPrefix a b (start ++ all)
fails_longer a b start first rest all short less is grown = record {
  more = grown.more;
  missing = grown.missing ++ rest;
  split =
      ap (λ (l : List ℕ). start ++ l) is ∙ sym (append_assoc start first rest) ∙ ap (λ (l : List ℕ). l ++ rest) (sym less ∙ grown.split) ∙ append_assoc grown.more grown.missing rest;
  grew = grown.grew;
}
