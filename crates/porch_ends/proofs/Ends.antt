-- Each run comes to an end, by what is left of it.
use Rattle.std.proofs.Common.{◌≡◌, ◌<◌, ℕ, zero, suc, ◌+◌, List, ◌++◌, refl, arith, Some, Bool, true, false}
use Rattle.porch_flat.specs.declared.whole.Flat.{Flat}
use Rattle.porch_flat.specs.declared.whole.Sort.{Sort}
use Rattle.porch_flat.specs.whole.Rules.{IsValid}
use Rattle.porch_bytes.specs.State.{Setting, State}
use Rattle.porch_bytes.specs.Column.{Next, Goes, Shows, IsDue, Ends, Traps, StackIsFull, HeapIsFull, next}
use Rattle.porch_bytes.specs.ByteRun.{ByteRun, Ended, Trap, StackFull, HeapFull, Paused, byte_run, is_paused, then_on, run_to}
use Rattle.porch_ends.specs.Left.{left, LeavesLess, RunsEnd}
use Rattle.porch_ends.proofs.Nearer.{come_nearer}

module _ (flat : Flat) (on : Setting) (n : ℕ) where
  -- the run from a state is over within some steps
  pub record IsOver (m : State) (output : List ℕ) : Type 0 where
    pub run : ByteRun
    pub steps : ℕ
    pub ends : run_to flat on n steps m output ≡ Some run

  record IsOverAfter (m : State) (output : List ℕ) (c : Next) : Type 0 where
    run : ByteRun
    steps : ℕ
    ends : then_on flat on m output c (λ to out. run_to flat on n steps to out) ≡ Some run

  over_if : (m : State) (output : List ℕ) (b : Bool) → is_paused flat on n m ≡ b → (b ≡ false → IsOverAfter m output (next flat on m)) → IsOver m output
  over_if m output true is h = record { run = byte_run Paused m.turns output; steps = 1; ends = rw is refl }
  over_if m output false is h = let o = h refl in record { run = o.run; steps = suc o.steps; ends = rw is o.ends }

  module _ (bound most : ℕ) (less : (to : State) (out : List ℕ) → left flat on n to < bound → IsOver to out) where
    over_after : (m : State) (output : List ℕ) (c : Next) → LeavesLess flat on n bound most c → IsOverAfter m output c
    over_after m output (Goes to) h = let o = less to output h.0 in record { run = o.run; steps = o.steps; ends = o.ends }
    over_after m output (Shows to) h = let o = less to (output ++ to.shown) h.0 in record { run = o.run; steps = o.steps; ends = o.ends }
    over_after m output (IsDue to) h = let o = less to output h.0 in record { run = o.run; steps = o.steps; ends = o.ends }
    over_after m output (Ends z to) h = record { run = byte_run (Ended z) to.turns output; steps = 0; ends = refl }
    over_after m output (Traps a) h = record { run = byte_run (Trap a) m.turns output; steps = 0; ends = refl }
    over_after m output (StackIsFull asked free) h = record { run = byte_run (StackFull asked free) m.turns output; steps = 0; ends = refl }
    over_after m output (HeapIsFull lacking) h = record { run = byte_run (HeapFull lacking) m.turns output; steps = 0; ends = refl }

  module _ (s : Sort) (valid : IsValid s flat) where
    -- by what is left
    over_within : (k : ℕ) (m : State) (output : List ℕ) → left flat on n m < k → IsOver m output
    over_within zero m output h = absurd (omega (arith, h))
    over_within (suc k) m output h =
        over_if m output (is_paused flat on n m) refl
        (λ e. over_after (left flat on n m) (n + m.turns) (λ to out g. over_within k to out (omega (arith, g, h))) m output (next flat on m)
        (come_nearer s flat on n (n + m.turns) m valid e (omega arith) (omega arith)))

pub each_run_ends : RunsEnd
each_run_ends s flat on n m output valid =
    let o = over_within flat on n s valid (left flat on n m + 1) m output (omega arith) in
    (o.run, (o.steps, o.ends))
