-- A part of memory has its size.
use Rattle.std.proofs.Common.{◌≡◌, ◌≤◌, ℕ, ◌+◌, List, length, drop, arith, length-drop}
use Rattle.std.proofs.lemmas.List.{length-take-le}
use Rattle.porch_bytes.specs.Leaf.{part}

pub part_length : (m : List ℕ) (at size : ℕ) → at + size ≤ length m → length (part m at size) ≡ size
part_length m at size h = length-take-le size (drop at m) (simp length-drop (omega (arith, h)))
