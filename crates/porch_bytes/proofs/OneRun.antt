-- A run has one end.
use Rattle.std.proofs.Common.{◌≡◌, ℕ, zero, suc, ◌+◌, List, [], ◌++◌, sym, ap, ◌∙◌, arith, add_comm, Option, Some, Bool, true, false}
use Rattle.std.specs.Prelude.{if◌then◌else◌}
use Rattle.porch_flat.specs.declared.whole.Flat.{Flat}
use Rattle.porch_bytes.specs.State.{Setting, State, prepared}
use Rattle.porch_bytes.specs.Column.{Next, Goes, Shows, IsDue, Ends, Traps, StackIsFull, HeapIsFull, next}
use Rattle.porch_bytes.specs.ByteRun.{ByteRun, byte_run, Paused, run_to, then_on, is_paused, RunsTo, IsOneRun}

same_run : (a b : ByteRun) → Some a ≡ Some b → a ≡ b
same_run a b h = cc

module _ (flat : Flat) (on : Setting) (n : ℕ) where
  longer_then : (k more : ℕ) (m : State) (shown : List ℕ) (r : ByteRun) (c : Next)
      → ((m : State) (shown : List ℕ) → run_to flat on n k m shown ≡ Some r → run_to flat on n (k + more) m shown ≡ Some r)
      → then_on flat on m shown c (λ to out. run_to flat on n k to out) ≡ Some r → then_on flat on m shown c (λ to out. run_to flat on n (k + more) to out) ≡ Some r
  longer_then k more m shown r (Goes to) f h = f to shown h
  longer_then k more m shown r (Shows to) f h = f to (shown ++ to.shown) h
  longer_then k more m shown r (IsDue to) f h = f to shown h
  longer_then k more m shown r (Ends z to) f h = h
  longer_then k more m shown r (Traps a) f h = h
  longer_then k more m shown r (StackIsFull asked left) f h = h
  longer_then k more m shown r (HeapIsFull lacking) f h = h

  longer_if : (b : Bool) (p q r : Option ByteRun) → (q ≡ r → p ≡ r) → (paused : Option ByteRun) → (if b then paused else q) ≡ r → (if b then paused else p) ≡ r
  longer_if true p q r f paused h = h
  longer_if false p q r f paused h = f h

  longer : (k more : ℕ) (m : State) (shown : List ℕ) (r : ByteRun) → run_to flat on n k m shown ≡ Some r → run_to flat on n (k + more) m shown ≡ Some r
  longer zero more m shown r h = absurd (let g = h in cc)
  longer (suc k) more m shown r h =
      let same : suc k + more ≡ suc (k + more) = omega arith in
      rw same (longer_if (is_paused flat on n m) (then_on flat on m shown (next flat on m) (λ to out. run_to flat on n (k + more) to out))
      (then_on flat on m shown (next flat on m) (λ to out. run_to flat on n k to out)) (Some r)
      (longer_then k more m shown r (next flat on m) (λ to out. longer k more to out r)) (Some (byte_run Paused m.turns shown)) h)

  one : (r r' : ByteRun) → RunsTo flat on n r → RunsTo flat on n r' → r ≡ r'
  one r r' p q =
      same_run r r' (sym (longer p.steps q.steps (prepared flat on) [] r p.ends) ∙ ap (λ (k : ℕ). run_to flat on n k (prepared flat on) []) (add_comm p.steps q.steps)
      ∙ longer q.steps p.steps (prepared flat on) [] r' q.ends)

  pub one_run : IsOneRun flat on n
  one_run = record { longer = longer; one = one }
