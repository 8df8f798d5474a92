-- What is left of a format behind a byte.
use Rattle.std.proofs.Common.{arith, add-one, zero, suc, ◌+◌, ◌<◌, ◌≤◌, drop, get_or, ◌≡◌, ℕ, nat_eq, if◌then◌else◌, true, false, List, [], ◌∷◌, length, Option, Some, None, is_some, Result, Ok, refl, sym, ap, ◌∙◌}
use Rattle.std.specs.Option.{option_map, option_map_or}
use Rattle.porch_lex.specs.declared.refusal.Refusal.{Refusal}
use Rattle.porch_lex.specs.declared.refusal.Rule.{Rule}
use Rattle.porch_lex.specs.declared.refusal.Rule.TheVariants.{Format}
use Rattle.porch_typed.specs.Mirror.{print}
use Rattle.porch_check.specs.Refusals.{refuse, found_or}
use Rattle.porch_check.specs.Scopes.{Scopes}
use Rattle.porch_check.specs.Operands.{literal, go_on}
use Rattle.porch_check.specs.Calls.{Argument, prints_of, printed, int_form, in_text, behind_percent, behind_l, Directive, Mode, Completed, one, not_yet, none_such, completed_in, mode_behind, with_completed, directives, count_taken}
use Rattle.porch_formats.specs.inside.Shown.{directives_of, behind_completed}
use Rattle.porch_formats.specs.inside.Printed.{counted}

known_behind : (d : Completed) (o : Option (List Directive)) → is_some (with_completed d o) ≡ true → is_some o ≡ true
known_behind (one d) None h = cc
known_behind (one d) (Some ds) h = refl
known_behind (not_yet m) o h = h
known_behind none_such o h = absurd (cc)

made_behind : (d : Completed) (o : Option (List Directive)) → is_some (with_completed d o) ≡ true
    → option_map_or (λ ds. ds) (with_completed d o) [] ≡ behind_completed d (option_map_or (λ ds. ds) o [])
made_behind (one d) None h = absurd (cc)
made_behind (one d) (Some ds) h = refl
made_behind (not_yet m) o h = refl
made_behind none_such o h = absurd (cc)

-- it has no other conversion
pub known_more : (m : Mode) (c : ℕ) (cs : List ℕ) → is_some (directives m (c ∷ cs)) ≡ true
    → is_some (directives (mode_behind (completed_in m c)) cs) ≡ true
known_more m c cs h = known_behind (completed_in m c) (directives (mode_behind (completed_in m c)) cs) h

-- the first directive, where the byte completes one
pub made_more : (m : Mode) (c : ℕ) (cs : List ℕ) → is_some (directives m (c ∷ cs)) ≡ true
    → directives_of m (c ∷ cs) ≡ behind_completed (completed_in m c) (directives_of (mode_behind (completed_in m c)) cs)
made_more m c cs h = made_behind (completed_in m c) (directives (mode_behind (completed_in m c)) cs) h

-- By how many arguments a format takes.

pub other_conversion : {A : Type 0} (o : Option (List Directive)) (rule : Rule) (at : ℕ) (go : List Directive → Result A Refusal)
    → None ≡ option_map count_taken o → found_or o rule at go ≡ refuse rule at
other_conversion None rule at go h = refl
other_conversion (Some ds) rule at go h = absurd (cc)

pub is_known : (o : Option (List Directive)) (n : ℕ) → Some n ≡ option_map count_taken o → is_some o ≡ true
is_known None n h = absurd (cc)
is_known (Some ds) n h = refl

pub with_count : {A : Type 0} (o : Option (List Directive)) (n k : ℕ) (rule : Rule) (at : ℕ) (go : List Directive → Result A Refusal) (other : Result A Refusal)
    → Some n ≡ option_map count_taken o
    → found_or o rule at (λ ds. if nat_eq (count_taken ds) k then go ds else other)
    ≡ (if nat_eq n k then go (option_map_or (λ ds. ds) o []) else other)
with_count None n k rule at go other h = absurd (cc)
with_count (Some ds) n k rule at go other h =
    let e : n ≡ count_taken ds = cc in
    ap (λ m. if nat_eq m k then go ds else other) (sym e)

-- A call by a literal.

pub by_count : (at : ℕ) (bs : List ℕ) (format : ℕ) (args : List Argument) (s : Scopes) (n : ℕ) → Some n ≡ option_map count_taken (directives in_text bs)
    → printed at (literal bs) format args s ≡ counted at bs n args s
by_count at bs format args s n h =
    with_count (directives in_text bs) n (length args) Format format
    (λ ds. go_on (prints_of ds args s) (λ ps s. Ok (int_form (print ps), s))) (refuse Format at) h

pub by_none : (at : ℕ) (bs : List ℕ) (format : ℕ) (args : List Argument) (s : Scopes) → None ≡ option_map count_taken (directives in_text bs)
    → printed at (literal bs) format args s ≡ refuse Format format
by_none at bs format args s h =
    other_conversion (directives in_text bs) Format format
    (λ ds. if nat_eq (count_taken ds) (length args) then go_on (prints_of ds args s) (λ ps s. Ok (int_form (print ps), s)) else refuse Format at) h

pub known_by_count : (bs : List ℕ) (n : ℕ) → Some n ≡ option_map count_taken (directives in_text bs) → is_some (directives in_text bs) ≡ true
known_by_count bs n h = is_known (directives in_text bs) n h

-- From the byte of a number on.

split_at : (cs : List ℕ) (i : ℕ) → i < length cs → drop i cs ≡ get_or cs i 0 ∷ drop (suc i) cs
split_at [] i h = absurd (omega arith)
split_at (c ∷ cs) zero h = refl
split_at (c ∷ cs) (suc i) h = split_at cs i (omega arith)

split : (cs : List ℕ) (i : ℕ) → i < length cs → drop i cs ≡ get_or cs i 0 ∷ drop (i + 1) cs
split cs i h = split_at cs i h ∙ ap (λ k. get_or cs i 0 ∷ drop k cs) (sym (add-one i))

pub known_next : (m n : Mode) (d : Completed) (i : ℕ) (cs : List ℕ) → i < length cs → d ≡ completed_in m (get_or cs i 0) → n ≡ mode_behind d
    → is_some (directives m (drop i cs)) ≡ true → is_some (directives n (drop (i + 1) cs)) ≡ true
known_next m n d i cs h done next known =
    let c = get_or cs i 0 in
    ap (λ k. is_some (directives k (drop (i + 1) cs))) (next ∙ ap mode_behind done)
    ∙ known_more m c (drop (i + 1) cs) (ap (λ xs. is_some (directives m xs)) (sym (split cs i h)) ∙ known)

pub made_next : (m n : Mode) (d : Completed) (i : ℕ) (cs : List ℕ) → i < length cs → d ≡ completed_in m (get_or cs i 0) → n ≡ mode_behind d
    → is_some (directives m (drop i cs)) ≡ true
    → directives_of m (drop i cs) ≡ behind_completed d (directives_of n (drop (i + 1) cs))
made_next m n d i cs h done next known =
    let c = get_or cs i 0 in
    ap (directives_of m) (split cs i h)
    ∙ made_more m c (drop (i + 1) cs) (ap (λ xs. is_some (directives m xs)) (sym (split cs i h)) ∙ known)
    ∙ ap (λ k. behind_completed (completed_in m c) (directives_of k (drop (i + 1) cs))) (sym (next ∙ ap mode_behind done))
    ∙ ap (λ e. behind_completed e (directives_of n (drop (i + 1) cs))) (sym done)

none_behind : (cs : List ℕ) (i : ℕ) → length cs ≤ i → drop i cs ≡ []
none_behind [] zero h = refl
none_behind [] (suc i) h = refl
none_behind (c ∷ cs) zero h = absurd (omega arith)
none_behind (c ∷ cs) (suc i) h = none_behind cs i (omega arith)

in_text_at_end : (m : Mode) → is_some (directives m []) ≡ true → directives_of m [] ≡ []
in_text_at_end in_text h = refl
in_text_at_end behind_percent h = refl
in_text_at_end behind_l h = refl

-- nothing is left at the end
pub none_made : (m : Mode) (i : ℕ) (cs : List ℕ) → length cs ≤ i → is_some (directives m (drop i cs)) ≡ true → directives_of m (drop i cs) ≡ []
none_made m i cs h known =
    ap (directives_of m) (none_behind cs i h)
    ∙ in_text_at_end m (ap (λ xs. is_some (directives m xs)) (sym (none_behind cs i h)) ∙ known)
