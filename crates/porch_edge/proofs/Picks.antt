-- What a crash leaves of a file, call by call.
use Rattle.std.proofs.Common.{◌^◌, ◌≡◌, ◌≢◌, ◌⊎◌, inl, inr, ℕ, ◌+◌, ◌<◌, ◌≤◌, ◌==◌, ◌||◌, Bool, true, false, List, [], ◌∷◌, length, take, drop, get_or, reverse, refl, sym, ◌∙◌, ap, subst, arith, length-take}
use Rattle.std.proofs.lemmas.List.{take_more, reverse-append, take_all}
use Rattle.std.proofs.lemmas.Bool.Decides.{nat_tests}
use Rattle.porch_edge.specs.declared.disk.FileName.{FileName}
use Rattle.porch_edge.specs.declared.memory_calls.Change.{Change}
use Rattle.porch_edge.specs.declared.memory_calls.Change.TheVariants.{Nothing, Synced, Write, Cut, Put}
use Rattle.porch_edge.specs.declared.memory_calls.Call.{Call}
use Rattle.porch_edge.specs.Files.{Torn, Shortened}
use Rattle.porch_edge.specs.Calls.{index_of, change_on, bytes_before, LeavesBy, FileLeaves}
use Rattle.porch_edge.specs.inside.Kept.{Did, FileKept}
use Rattle.std.specs.declared.option.Option.{Option}
use Rattle.std.specs.declared.option.Option.TheVariants.{Some, None}
use Rattle.porch_edge.specs.declared.memory_plan.Pick.{Pick}
use Rattle.porch_edge.specs.declared.memory_plan.Pick.TheVariants.{Old, New, Fill}
use Rattle.porch_edge.specs.inside.MemoryLaws.{reads}
use Rattle.porch_edge.specs.Picks.{is_between, is_pending, pending_by, painted, synced_by, synced_bytes, revived}
use Rattle.porch_edge.proofs.Painted.{painted_agree, painted_none, painted_twice, length-painted, take-painted, drop-painted}

pub on_file : (file : FileName) (call : Call) → index_of call.file ≡ index_of file → change_on file call ≡ call.change
on_file file call same = let test : (index_of file == index_of call.file) ≡ true = grind (arith, nat_tests) in rw test refl

pub off_file : (file : FileName) (call : Call) → index_of call.file ≢ index_of file → change_on file call ≡ Nothing
off_file file call other = let test : (index_of file == index_of call.file) ≡ false = grind (arith, nat_tests) in rw test refl

-- a sync, or bytes that were put
pub painted_over : (file : FileName) (call : Call) (byte : ℕ) (xs : List ℕ) (log : List Call) → (change_on file call ≡ Synced) ⊎ (change_on file call ≡ Put) → xs ≡ painted (is_pending file (call ∷ log)) byte 0 xs
painted_over file call byte xs log (inl is) = subst (λ x. xs ≡ painted (λ k. pending_by x k (is_pending file log k)) byte 0 xs) (sym is) (sym (painted_none byte 0 xs))
painted_over file call byte xs log (inr is) = subst (λ x. xs ≡ painted (λ k. pending_by x k (is_pending file log k)) byte 0 xs) (sym is) (sym (painted_none byte 0 xs))

pub painted_more : (file : FileName) (call : Call) (byte from to : ℕ) (xs ys : List ℕ) (log : List Call) → change_on file call ≡ Write from to → ys ≡ painted (is_between from to) byte 0 xs
    → painted (is_pending file log) byte 0 ys ≡ painted (is_pending file (call ∷ log)) byte 0 xs
painted_more file call byte from to xs ys log is new = subst (λ x. painted (is_pending file log) byte 0 ys ≡ painted (λ k. pending_by x k (is_pending file log k)) byte 0 xs) (sym is)
    (ap (λ (l : List ℕ). painted (is_pending file log) byte 0 l) new ∙ painted_twice byte (is_between from to) (is_pending file log) 0 xs)

-- the calls up to a place, the last first
pub reversed_more : (calls : List Call) (i n : ℕ) (call : Call) → call ≡ get_or calls i call → n ≡ i + 1 → i < length calls → reverse (take n calls) ≡ call ∷ reverse (take i calls)
reversed_more calls i n call is next lt =
    ap (λ (k : ℕ). reverse (take k calls)) next ∙ ap (λ (l : List Call). reverse l) (take_more calls i call lt) ∙ reverse-append (take i calls) (get_or calls i call ∷ [])
    ∙ ap (λ (x : Call). x ∷ reverse (take i calls)) (sym is)

-- what the last sync left is among what a crash may leave
synced_leaves_by : (x : Change) (now earlier : List ℕ) (past : List ℕ → Type 0) → past earlier → LeavesBy x now past (synced_by x now earlier)
synced_leaves_by Nothing now earlier past here = here
synced_leaves_by Synced now earlier past here = refl
synced_leaves_by (Write from to) now earlier past here = (earlier, here, record { before = refl; behind = refl; no_shorter = omega arith; no_longer = omega arith })
synced_leaves_by (Cut len) now earlier past here = (earlier, here, record { front = sym (take_all (length earlier) earlier (omega arith)); no_shorter = omega arith })
synced_leaves_by Put now earlier past here = refl

pub synced_leaves : (file : FileName) (now : List ℕ) (log : List Call) → FileLeaves file now log (synced_bytes file now log)
synced_leaves file now [] = refl
synced_leaves file now (call ∷ log) =
    let before = bytes_before (change_on file call) call.before.items now in
    synced_leaves_by (change_on file call) now (synced_bytes file before log) (FileLeaves file before log) (synced_leaves file before log)

-- and so is one byte in each pending place
torn_painted : (from to b : ℕ) (p : ℕ → Bool) (before now : List ℕ) → Torn from to before now → Torn from to (painted p b 0 before) (painted (λ k. is_between from to k || p k) b 0 now)
torn_painted from to b p before now torn =
    let q : ℕ → Bool = λ k. is_between from to k || p k in
    record {
      before = take-painted b q from 0 now
          ∙ painted_agree b q p 0 (take from now) (λ k ge lt. let below : k < from = omega (arith, length-take from now, lt) in grind (arith, nat_tests))
          ∙ ap (λ (l : List ℕ). painted p b 0 l) torn.before ∙ sym (take-painted b p from 0 before);
      behind = drop-painted b q to 0 to now (omega arith)
          ∙ painted_agree b q p to (drop to now) (λ k ge lt. grind (arith, nat_tests))
          ∙ ap (λ (l : List ℕ). painted p b to l) torn.behind ∙ sym (drop-painted b p to 0 to before (omega arith));
      no_shorter = omega (arith, torn.no_shorter, length-painted b p 0 before, length-painted b q 0 now);
      no_longer = omega (arith, torn.no_longer, length-painted b p 0 before, length-painted b q 0 now);
    }

shortened_painted : (len b : ℕ) (p : ℕ → Bool) (before now : List ℕ) → Shortened len before now → Shortened len (painted p b 0 before) (painted p b 0 now)
shortened_painted len b p before now short = record {
  front = ap (λ (l : List ℕ). painted p b 0 l) short.front ∙ sym (take-painted b p (length now) 0 before) ∙ ap (λ (n : ℕ). take n (painted p b 0 before)) (sym (length-painted b p 0 now));
  no_shorter = omega (arith, short.no_shorter, length-painted b p 0 before, length-painted b p 0 now);
}

painted_leaves_by : (x : Change) (b : ℕ) (p : ℕ → Bool) (kept now : List ℕ) (past : List ℕ → Type 0) → Did x kept now → past (painted p b 0 (bytes_before x kept now)) → LeavesBy x now past (painted (λ k. pending_by x k (p k)) b 0 now)
painted_leaves_by Nothing b p kept now past did here = here
painted_leaves_by Synced b p kept now past did here = painted_none b 0 now
painted_leaves_by (Write from to) b p kept now past did here = (painted p b 0 kept, here, torn_painted from to b p kept now did)
painted_leaves_by (Cut len) b p kept now past did here = (painted p b 0 kept, here, shortened_painted len b p kept now did.0)
painted_leaves_by Put b p kept now past did here = painted_none b 0 now

pub painted_leaves : (file : FileName) (b : ℕ) (now : List ℕ) (log : List Call) → FileKept file now log → FileLeaves file now log (painted (is_pending file log) b 0 now)
painted_leaves file b now [] kept = painted_none b 0 now
painted_leaves file b now (call ∷ log) kept =
    let before = bytes_before (change_on file call) call.before.items now in
    painted_leaves_by (change_on file call) b (is_pending file log) call.before.items now (FileLeaves file before log) kept.0 (painted_leaves file b before log kept.1)

-- and no longer than a file may be
synced_within_by : (x : Change) (kept now earlier : List ℕ) → Did x kept now → length now ≤ 2 ^ 62 → (length (bytes_before x kept now) ≤ 2 ^ 62 → length earlier ≤ 2 ^ 62) → length (synced_by x now earlier) ≤ 2 ^ 62
synced_within_by Nothing kept now earlier did short here = here short
synced_within_by Synced kept now earlier did short here = short
synced_within_by (Write from to) kept now earlier did short here = here (omega (arith, did.no_shorter, short))
synced_within_by (Cut len) kept now earlier did short here = here did.1
synced_within_by Put kept now earlier did short here = short

pub synced_within : (file : FileName) (now : List ℕ) (log : List Call) → FileKept file now log → length now ≤ 2 ^ 62 → length (synced_bytes file now log) ≤ 2 ^ 62
synced_within file now [] kept short = short
synced_within file now (call ∷ log) kept short =
    let before = bytes_before (change_on file call) call.before.items now in
    synced_within_by (change_on file call) call.before.items now (synced_bytes file before log) kept.0 short (λ le. synced_within file before log kept.1 le)

pub revived_leaves : (pick : Option Pick) (file : FileName) (now : List ℕ) (log : List Call) → FileKept file now log → FileLeaves file now log (revived pick file now log)
revived_leaves None file now log kept = reads file now log kept
revived_leaves (Some Old) file now log kept = synced_leaves file now log
revived_leaves (Some New) file now log kept = reads file now log kept
revived_leaves (Some (Fill b)) file now log kept = painted_leaves file b now log kept

pub revived_within : (pick : Option Pick) (file : FileName) (now : List ℕ) (log : List Call) → FileKept file now log → length now ≤ 2 ^ 62 → length (revived pick file now log) ≤ 2 ^ 62
revived_within None file now log kept short = short
revived_within (Some Old) file now log kept short = synced_within file now log kept short
revived_within (Some New) file now log kept short = short
revived_within (Some (Fill b)) file now log kept short = omega (arith, short, length-painted b (is_pending file log) 0 now)
