-- The streams in memory.
use Rattle.std.specs.Prelude.{ℕ, ◌+◌, ◌-◌, ◌^◌, ◌≡◌, nat_eq, min, List, length, Bool, if◌then◌else◌}
use Rattle.std.specs.List.{list_any}
use Rattle.std.specs.Bool.{OnTrue, OnFalse}
use Rattle.std.specs.Prelude.{IsErr, OnErr, IfOk}
use Rattle.std.specs.declared.result.Result.{Result}
use Rattle.std.specs.declared.result.Result.TheVariants.{Ok}
use Rattle.porch_edge.specs.declared.failed.Failed.{Failed}

-- one more, up to the end of the range
abbrev pub next : ℕ → ℕ
next n = min (n + 1) (2 ^ 64 - 1)

abbrev pub is_listed : ℕ → List ℕ → Bool
is_listed n ns = list_any (λ m. nat_eq m n) ns

-- a source: the bytes left, the numbers of the calls that fail, the calls made, the faults
pub record Feed : Type 0 where
  pub left : List ℕ
  pub fails : List ℕ
  pub calls : ℕ
  pub faults : ℕ

-- A read fails where its number is named. Else it gives as many bytes as fit and are left.
pub record ReadsFeed (old new : Feed) (result : Result ℕ Failed) (buf : List ℕ) : Type 0 where
  pub called : new.calls ≡ next old.calls
  pub kept : new.fails ≡ old.fails
  pub counted : new.faults ≡ (if is_listed new.calls old.fails then next old.faults else old.faults)
  pub named : OnTrue (is_listed new.calls old.fails) (IsErr result)
  pub whole : OnFalse (is_listed new.calls old.fails) (result ≡ Ok (min (length buf) (length old.left)))

-- a sink: the bytes held, the numbers of the calls that fail, the calls made, the faults
pub record Store : Type 0 where
  pub held : List ℕ
  pub fails : List ℕ
  pub calls : ℕ
  pub faults : ℕ

-- A write fails where its number is named, or its growth is refused. Else it adds the whole piece.
pub record WritesStore (old new : Store) (result : Result ℕ Failed) (bytes : List ℕ) : Type 0 where
  pub called : new.calls ≡ next old.calls
  pub kept : new.fails ≡ old.fails
  pub named : OnTrue (is_listed new.calls old.fails) (IsErr result)
  pub failed : OnErr result (new.faults ≡ next old.faults)
  pub whole : IfOk result (λ n. (n ≡ length bytes) × (new.faults ≡ old.faults))
