-- What is added by several writes.
use Rattle.std.proofs.Common.{◌+◌, ◌-◌, ℕ, List, [], ◌++◌, length, take, drop, append_assoc, sym, ◌∙◌}
use Rattle.std.proofs.Math.Seq.{take-add}
use Rattle.std.proofs.lemmas.List.{take-append-drop, take_rest}
use Rattle.std.specs.declared.option.Option.{Option}
use Rattle.porch_edge.specs.Streams.{Grew, GrewByPrefix, Grew-twice}

-- the first k bytes and then none: a beginning
pub begun : (a b c : Option (List ℕ)) (bytes : List ℕ) (k : ℕ) → Grew a b (take k bytes) → Grew b c [] → GrewByPrefix a c bytes
begun a b c bytes k p q = record {
  more = take k bytes ++ [];
  missing = drop k bytes;
  split = sym (append_assoc (take k bytes) [] (drop k bytes) ∙ take-append-drop k bytes);
  grew = Grew-twice a b c (take k bytes) [] p q;
}

-- the first k bytes and then n of the others: the first k + n
pub more : (a b c : Option (List ℕ)) (bytes : List ℕ) (k n : ℕ) → Grew a b (take k bytes) → Grew b c (take n (take (length bytes - k) (drop k bytes))) → Grew a c (take (k + n) bytes)
more a b c bytes k n p q =
    let rest = rw (take_rest bytes k) at q in rw (take-add k n bytes) (Grew-twice a b c _ _ p rest)
