-- The arguments that a format takes, counted byte by byte.
use Rattle.std.proofs.Common.{◌≡◌, ℕ, ◌+◌, if◌then◌else◌, List, [], ◌∷◌, Option, Some, None, refl, sym, ap, ◌∙◌, add-zero, zero-add, add_assoc}
use Rattle.std.specs.Option.{option_map}
use Rattle.porch_check.specs.Calls.{Directive, Mode, in_text, behind_percent, behind_l, Completed, one, not_yet, none_such, is_taken, completed_in, mode_behind, with_completed, directives, count_taken}
use Rattle.porch_literals.specs.inside.Counts.{is_none_such, taken_by, counted}

abbrev plus : ℕ → Option ℕ → Option ℕ
plus k n = option_map (λ n. k + n) n

at_end : (m : Mode) (n : ℕ) → counted m n [] ≡ plus n (option_map count_taken (directives m []))
at_end in_text n = ap (λ k. Some k) (sym (add-zero n))
at_end behind_percent n = refl
at_end behind_l n = refl

by_one : (n : ℕ) (d : Directive) (r : Option (List Directive)) → plus (n + taken_by (one d)) (option_map count_taken r) ≡ plus n (option_map count_taken (with_completed (one d) r))
by_one n d None = refl
by_one n d (Some ds) = ap (λ k. Some k) (add_assoc n (taken_by (one d)) (count_taken ds))

-- what a byte completes, with what is counted behind it
by_completed : (cs : List ℕ) → ((m : Mode) (n : ℕ) → counted m n cs ≡ plus n (option_map count_taken (directives m cs))) → (d : Completed) (n : ℕ) → (if is_none_such d then None else counted (mode_behind d) (n + taken_by d) cs) ≡ plus n (option_map count_taken (with_completed d (directives (mode_behind d) cs)))
by_completed cs ih (one d) n = ih in_text (n + taken_by (one d)) ∙ by_one n d (directives in_text cs)
by_completed cs ih (not_yet m) n = ap (λ k. counted m k cs) (add-zero n) ∙ ih m n
by_completed cs ih none_such n = refl

counted_from : (cs : List ℕ) (m : Mode) (n : ℕ) → counted m n cs ≡ plus n (option_map count_taken (directives m cs))
counted_from [] m n = at_end m n
counted_from (c ∷ cs) m n = by_completed cs (counted_from cs) (completed_in m c) n

plus_none : (o : Option ℕ) → plus 0 o ≡ o
plus_none None = refl
plus_none (Some n) = ap (λ k. Some k) (zero-add n)

pub counted_is : (cs : List ℕ) → counted in_text 0 cs ≡ option_map count_taken (directives in_text cs)
counted_is cs = counted_from cs in_text 0 ∙ plus_none (option_map count_taken (directives in_text cs))
