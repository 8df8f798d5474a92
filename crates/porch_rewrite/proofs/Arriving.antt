-- Where the commands of a function stand once it is rewritten: each behind commands that do nothing, and labels likewise.
use Rattle.std.proofs.Common.{◌≡◌, ◌<◌, ℕ, zero, suc, ◌+◌, List, [], ◌∷◌, ◌++◌, length, drop, refl, sym, ap, ◌∙◌, subst, arith, Option, Some, None, Bool, true, false}
use Rattle.std.specs.Prelude.{slice_get, nat_lt, if◌then◌else◌, ⊤}
use Rattle.std.specs.List.{position, position_or_len}
use Rattle.std.specs.Option.{option_map}
use Rattle.std.proofs.lemmas.Bool.Decides.{nat_tests}
use Rattle.porch_flat.specs.declared.whole.Command.{Command}
use Rattle.porch_flat.specs.declared.whole.Command.TheVariants as command
use Rattle.porch_flat.specs.declared.whole.Function.{Function}
use Rattle.porch_flat.specs.whole.Form as form
use Rattle.porch_flat.specs.whole.Form.{Form, form_of, label_of}
use Rattle.porch_flat.specs.whole.Places.{is_number, place_of_label}
use Rattle.porch_flat.specs.whole.Rewritten.{leads_to_checkpoint}
use Rattle.porch_rewrite.specs.Rewriting.{FIRST_LABEL, has_number, numbers_in, all_with_marks, tables, way_out, front, back, saving_commands}

-- a command that does nothing
abbrev pub is_silent : Form → Bool
is_silent (form.label n) = true
is_silent (form.restore vs) = true
is_silent (form.table k n) = true
is_silent (form.saved k n) = true
is_silent (form.push vs) = true
is_silent other = false

abbrev pub AreSilent : List Command → Type 0
AreSilent [] = ⊤
AreSilent (c ∷ cs) = (is_silent (form_of c) ≡ true) × AreSilent cs

silent_more : (xs ys : List Command) → AreSilent xs → AreSilent ys → AreSilent (xs ++ ys)
silent_more [] ys a b = b
silent_more (x ∷ xs) ys a b = (a.0, silent_more xs ys a.1 b)

-- lists from a place on

pub drop_next : {X : Type 0} (xs : List X) (i : ℕ) (x : X) (rest : List X) → drop i xs ≡ x ∷ rest → drop (i + 1) xs ≡ rest
drop_next [] zero x rest h = absurd (cc)
drop_next [] (suc i) x rest h = absurd (cc)
drop_next (y ∷ xs) zero x rest h = cc
drop_next (y ∷ xs) (suc i) x rest h = let same : suc i + 1 ≡ suc (i + 1) = omega arith in rw same (drop_next xs i x rest h)

pub drop_here : {X : Type 0} (xs : List X) (i : ℕ) (x : X) (rest : List X) → drop i xs ≡ x ∷ rest → slice_get xs i ≡ Some x
drop_here [] zero x rest h = absurd (cc)
drop_here [] (suc i) x rest h = absurd (cc)
drop_here (y ∷ xs) zero x rest h = cc
drop_here (y ∷ xs) (suc i) x rest h = drop_here xs i x rest h

pub drop_none : {X : Type 0} (xs : List X) (i : ℕ) → drop i xs ≡ [] → slice_get xs i ≡ None
drop_none [] zero h = refl
drop_none [] (suc i) h = refl
drop_none (y ∷ xs) zero h = absurd (cc)
drop_none (y ∷ xs) (suc i) h = drop_none xs i h

pub drop_some : {X : Type 0} (xs : List X) (i : ℕ) (x : X) → slice_get xs i ≡ Some x → drop i xs ≡ x ∷ drop (i + 1) xs
drop_some [] i x h = absurd (cc)
drop_some (y ∷ xs) zero x h = cc
drop_some (y ∷ xs) (suc i) x h = let same : suc i + 1 ≡ suc (i + 1) = omega arith in rw same (drop_some xs i x h)

pub drop_all : {X : Type 0} (xs : List X) (i : ℕ) → slice_get xs i ≡ None → drop i xs ≡ []
drop_all [] zero h = refl
drop_all [] (suc i) h = refl
drop_all (y ∷ xs) zero h = absurd (cc)
drop_all (y ∷ xs) (suc i) h = drop_all xs i h

pub drop_append : {X : Type 0} (xs ys : List X) → drop (length xs) (xs ++ ys) ≡ ys
drop_append [] ys = refl
drop_append (x ∷ xs) ys = drop_append xs ys

pub append_more : {X : Type 0} (xs ys zs : List X) → (xs ++ ys) ++ zs ≡ xs ++ (ys ++ zs)
append_more [] ys zs = refl
append_more (x ∷ xs) ys zs = ap (λ l. x ∷ l) (append_more xs ys zs)

tables_silent : (before count : ℕ) → AreSilent (tables before count)
tables_silent before zero = tt
tables_silent before (suc count) = (refl, tables_silent (before + 1) count)

-- a function's own commands, from some place on, behind silent ones
pub record Saving (reaching : ℕ → Bool) (f : Function) (next there : ℕ) : Type 0 where
  pub silent : List Command
  pub quiet : AreSilent silent
  pub before : ℕ
  pub rest : drop there (saving_commands reaching f) ≡ silent ++ (all_with_marks reaching (way_out reaching f) before (drop next f.commands) ++ back reaching f)

module _ (reaching : ℕ → Bool) (f : Function) where
  abbrev made : List Command
  made = saving_commands reaching f

  abbrev out : ℕ
  out = way_out reaching f

  -- the entry
  pub enters : Saving reaching f 0 0
  enters = record { silent = front reaching f; quiet = (refl, tables_silent 0 (numbers_in reaching f.commands)); before = 0; rest = refl }

  -- Where a function is rewritten: both places are behind its commands, or the one stands for the other.
  pub data Fits (next there : ℕ) : Type 0 where
    saving : Saving reaching f next there → Fits next there
    behind : drop next f.commands ≡ [] → drop there made ≡ [] → Fits next there

  -- the run gets from a place to the command, by commands that do nothing
  pub record Arrives (next there : ℕ) : Type 0 where
    pub silent : List Command
    pub quiet : AreSilent silent
    pub rest : List Command
    pub whole : drop there made ≡ silent ++ rest
    pub here : slice_get rest 0 ≡ slice_get f.commands next
    pub onward : (c : Command) → slice_get f.commands next ≡ Some c → (place : ℕ) → drop place made ≡ rest → Saving reaching f (next + 1) (place + 1)

  arrives_by : (next there : ℕ) → (s : Saving reaching f next there) → (o : Option Command) → slice_get f.commands next ≡ o → Arrives next there
  arrives_by next there s None is =
      let over : drop next f.commands ≡ [] = drop_all f.commands next is in
      record {
        silent = s.silent ++ back reaching f;
        quiet = silent_more s.silent (back reaching f) s.quiet (refl, (refl, tt));
        rest = [];
        whole = s.rest ∙ ap (λ cs. s.silent ++ (all_with_marks reaching out s.before cs ++ back reaching f)) over ∙ sym (append_more s.silent (back reaching f) [] ∙ ap (λ l. s.silent ++ l) refl);
        here = sym is;
        onward = λ c h. absurd (let no : None ≡ Some c = sym is ∙ h in cc);
      }
  arrives_by next there s (Some c) is = arrives_at (has_number reaching c) refl
    where
      arrives_at : (b : Bool) → has_number reaching c ≡ b → Arrives next there
      arrives_at true numbered =
          let more : drop next f.commands ≡ c ∷ drop (next + 1) f.commands = drop_some f.commands next c is in
          let label : Command = command.Label (FIRST_LABEL + s.before) in
          let mark : Command = command.Saved (s.before + 1) out in
          let others : List Command = all_with_marks reaching out (s.before + 1) (drop (next + 1) f.commands) ++ back reaching f in
          record {
            silent = s.silent ++ label ∷ [];
            quiet = silent_more s.silent (label ∷ []) s.quiet (refl, tt);
            rest = c ∷ mark ∷ others;
            whole =
                s.rest ∙ ap (λ cs. s.silent ++ (all_with_marks reaching out s.before cs ++ back reaching f)) more
                ∙ (rw numbered refl) ∙ sym (append_more s.silent (label ∷ []) (c ∷ mark ∷ others));
            here = sym is;
            onward = λ d h place at. record { silent = mark ∷ []; quiet = (refl, tt); before = s.before + 1; rest = drop_next made place c (mark ∷ others) at };
          }
      arrives_at false plain =
          let more : drop next f.commands ≡ c ∷ drop (next + 1) f.commands = drop_some f.commands next c is in
          let others : List Command = all_with_marks reaching out s.before (drop (next + 1) f.commands) ++ back reaching f in
          record {
            silent = s.silent;
            quiet = s.quiet;
            rest = c ∷ others;
            whole = s.rest ∙ ap (λ cs. s.silent ++ (all_with_marks reaching out s.before cs ++ back reaching f)) more ∙ (rw plain refl);
            here = sym is;
            onward = λ d h place at. record { silent = []; quiet = tt; before = s.before; rest = drop_next made place c others at };
          }

  pub arrives : (next there : ℕ) → Fits next there → Arrives next there
  arrives next there (saving s) = arrives_by next there s (slice_get f.commands next) refl
  arrives next there (behind over gone) = record {
    silent = [];
    quiet = tt;
    rest = [];
    whole = gone;
    here = sym (drop_none f.commands next over);
    onward = λ c h. absurd (let no : None ≡ Some c = sym (drop_none f.commands next over) ∙ h in cc);
  }

-- labels

abbrev pub find : (Command → Bool) → List Command → Option ℕ
find p [] = None
find p (c ∷ cs) = if p c then Some 0 else option_map (λ k. suc k) (find p cs)

position_by : (p : Command → Bool) (c : Command) (cs : List Command) (b : Bool) → p c ≡ b → position p cs ≡ find p cs → position p (c ∷ cs) ≡ (if b then Some 0 else option_map (λ k. suc k) (find p cs))
position_by p c cs true is h = let inside : nat_lt 0 (suc (length cs)) ≡ true = grind (arith, nat_tests) in rw (is, inside) refl
position_by p c cs false is h = rw (is, ← h) (moved (position_or_len p cs) (length cs) (nat_lt (position_or_len p cs) (length cs)) refl)
  where
    moved : (k n : ℕ) (b : Bool) → nat_lt k n ≡ b → (if nat_lt (1 + k) (suc n) then Some (1 + k) else None) ≡ option_map (λ k. suc k) (if nat_lt k n then Some k else None)
    moved k n true is = let same : nat_lt (1 + k) (suc n) ≡ true = grind (arith, nat_tests, is) in let one : 1 + k ≡ suc k = omega arith in rw (is, same) (ap (λ j. Some j) one)
    moved k n false is = let same : nat_lt (1 + k) (suc n) ≡ false = grind (arith, nat_tests, is) in rw (is, same) refl

pub position_is : (p : Command → Bool) (cs : List Command) → position p cs ≡ find p cs
position_is p [] = refl
position_is p (c ∷ cs) = position_by p c cs (p c) refl (position_is p cs)

abbrev pub is_label : ℕ → Command → Bool
is_label n c = is_number n (label_of (form_of c))

not_ahead : (n k : ℕ) → n < FIRST_LABEL → is_label n (command.Label (FIRST_LABEL + k)) ≡ false
not_ahead n k less = grind (arith, nat_tests, less)

pub unnumbered_form : (reaching : ℕ → Bool) (n : ℕ) (f : Form) → is_number n (label_of f) ≡ true → leads_to_checkpoint reaching f ≡ false
unnumbered_form reaching n (form.label k) h = refl
unnumbered_form reaching n (form.call r g os) h = absurd (cc)
unnumbered_form reaching n form.checkpoint h = absurd (cc)
unnumbered_form reaching n (form.move v o) h = refl
unnumbered_form reaching n (form.cast v w) h = refl
unnumbered_form reaching n (form.operator op v a b) h = refl
unnumbered_form reaching n (form.complement v o) h = refl
unnumbered_form reaching n (form.comparison c v a b) h = refl
unnumbered_form reaching n (form.subobject v within leaf) h = refl
unnumbered_form reaching n (form.step way v p o) h = refl
unnumbered_form reaching n (form.difference v p q) h = refl
unnumbered_form reaching n (form.load v p) h = refl
unnumbered_form reaching n (form.store p o) h = refl
unnumbered_form reaching n (form.copy p q) h = refl
unnumbered_form reaching n (form.kill v) h = refl
unnumbered_form reaching n (form.allocate zeros v o) h = refl
unnumbered_form reaching n (form.free p) h = refl
unnumbered_form reaching n (form.show how v o) h = refl
unnumbered_form reaching n (form.text v p) h = refl
unnumbered_form reaching n (form.jump k) h = refl
unnumbered_form reaching n (form.branch o k) h = refl
unnumbered_form reaching n form.turn h = refl
unnumbered_form reaching n (form.return o) h = refl
unnumbered_form reaching n (form.restore vs) h = refl
unnumbered_form reaching n (form.table k l) h = refl
unnumbered_form reaching n (form.saved k l) h = refl
unnumbered_form reaching n (form.push vs) h = refl

pub some_suc : (o : Option ℕ) (to : ℕ) → option_map (λ k. suc k) o ≡ Some to → (k : ℕ) × ((o ≡ Some k) × (to ≡ suc k))
some_suc None to h = absurd (cc)
some_suc (Some k) to h = (k, (refl, cc))

none_suc : (o : Option ℕ) → option_map (λ k. suc k) o ≡ None → o ≡ None
none_suc None h = refl
none_suc (Some k) h = absurd (cc)

module _ (reaching : ℕ → Bool) (end : List Command) (out n : ℕ) (less : n < FIRST_LABEL) (ends : find (is_label n) end ≡ None) where
  abbrev body : ℕ → List Command → List Command
  body before cs = all_with_marks reaching out before cs ++ end

  record LabelThere (before to : ℕ) (cs : List Command) : Type 0 where
    there : ℕ
    found : find (is_label n) (body before cs) ≡ Some there
    number : ℕ
    rest : drop there (body before cs) ≡ body number (drop to cs)

  find_marked : (before : ℕ) (c : Command) (cs : List Command) (b : Bool) → has_number reaching c ≡ b → is_label n c ≡ false
      → find (is_label n) (body before (c ∷ cs))
      ≡ (if b then option_map (λ k. suc (suc (suc k))) (find (is_label n) (body (before + 1) cs)) else option_map (λ k. suc k) (find (is_label n) (body before cs)))
  find_marked before c cs true numbered other = rw (numbered, not_ahead n before less, other) (threefold (find (is_label n) (body (before + 1) cs)))
    where
      threefold : (o : Option ℕ) → option_map (λ k. suc k) (option_map (λ k. suc k) (option_map (λ k. suc k) o)) ≡ option_map (λ k. suc (suc (suc k))) o
      threefold None = refl
      threefold (Some k) = refl
  find_marked before c cs false plain other = rw (plain, other) refl

  label_first : (before to : ℕ) (c : Command) (cs : List Command) → is_label n c ≡ true → find (is_label n) (c ∷ cs) ≡ Some to → LabelThere before to (c ∷ cs)
  label_first before to c cs is h =
      let plain : has_number reaching c ≡ false = unnumbered_form reaching n (form_of c) is in
      let first : to ≡ 0 = (let at : Some 0 ≡ Some to = subst (λ b. (if b then Some 0 else option_map (λ k. suc k) (find (is_label n) cs)) ≡ Some to) is h in cc) in
      record { there = 0; found = rw (plain, is) refl; number = before; rest = rw first refl }

  behind_one : (before k : ℕ) (c : Command) (cs : List Command) → is_label n c ≡ false → (b : Bool) → has_number reaching c ≡ b
      → ((before : ℕ) → LabelThere before k cs) → LabelThere before (suc k) (c ∷ cs)
  behind_one before k c cs other true numbered more =
      let rest = more (before + 1) in
      record {
        there = suc (suc (suc rest.there));
        found = find_marked before c cs true numbered other ∙ ap (λ o. option_map (λ k. suc (suc (suc k))) o) rest.found;
        number = rest.number;
        rest = rw numbered rest.rest;
      }
  behind_one before k c cs other false plain more =
      let rest = more before in
      record {
        there = suc rest.there;
        found = find_marked before c cs false plain other ∙ ap (λ o. option_map (λ k. suc k) o) rest.found;
        number = rest.number;
        rest = rw plain rest.rest;
      }

  label_later : (before to : ℕ) (c : Command) (cs : List Command) → is_label n c ≡ false
      → ((before to : ℕ) → find (is_label n) cs ≡ Some to → LabelThere before to cs) → find (is_label n) (c ∷ cs) ≡ Some to → LabelThere before to (c ∷ cs)
  label_later before to c cs other more h =
      let at = some_suc (find (is_label n) cs) to (subst (λ b. (if b then Some 0 else option_map (λ k. suc k) (find (is_label n) cs)) ≡ Some to) other h) in
      subst (λ t. LabelThere before t (c ∷ cs)) (sym at.1.1)
      (behind_one before at.0 c cs other (has_number reaching c) refl (λ before. more before at.0 at.1.0))

  label_by : (before to : ℕ) (c : Command) (cs : List Command) (b : Bool) → is_label n c ≡ b
      → ((before to : ℕ) → find (is_label n) cs ≡ Some to → LabelThere before to cs) → find (is_label n) (c ∷ cs) ≡ Some to → LabelThere before to (c ∷ cs)
  label_by before to c cs true is more h = label_first before to c cs is h
  label_by before to c cs false is more h = label_later before to c cs is more h

  label_there : (cs : List Command) (before to : ℕ) → find (is_label n) cs ≡ Some to → LabelThere before to cs
  label_there [] before to h = absurd (cc)
  label_there (c ∷ cs) before to h = label_by before to c cs (is_label n c) refl (λ before to h. label_there cs before to h) h

  no_label_by : (before : ℕ) (c : Command) (cs : List Command) (b : Bool) → has_number reaching c ≡ b → is_label n c ≡ false → ((before : ℕ) → find (is_label n) (body before cs) ≡ None)
      → find (is_label n) (body before (c ∷ cs)) ≡ None
  no_label_by before c cs true numbered other more =
      find_marked before c cs true numbered other ∙ ap (λ o. option_map (λ k. suc (suc (suc k))) o) (more (before + 1))
  no_label_by before c cs false plain other more = find_marked before c cs false plain other ∙ ap (λ o. option_map (λ k. suc k) o) (more before)

  not_first : (c : Command) (cs : List Command) (b : Bool) → is_label n c ≡ b → find (is_label n) (c ∷ cs) ≡ None → (is_label n c ≡ false) × (find (is_label n) cs ≡ None)
  not_first c cs true is h = absurd (let at : Some 0 ≡ None = subst (λ b. (if b then Some 0 else option_map (λ k. suc k) (find (is_label n) cs)) ≡ None) is h in cc)
  not_first c cs false is h =
      (is, none_suc (find (is_label n) cs) (subst (λ b. (if b then Some 0 else option_map (λ k. suc k) (find (is_label n) cs)) ≡ None) is h))

  no_label : (cs : List Command) (before : ℕ) → find (is_label n) cs ≡ None → find (is_label n) (body before cs) ≡ None
  no_label [] before h = ends
  no_label (c ∷ cs) before h =
      let at = not_first c cs (is_label n c) refl h in
      no_label_by before c cs (has_number reaching c) refl at.0 (λ before. no_label cs before at.1)

-- in front stand no labels

record Behind (n count there : ℕ) (xs ys : List Command) : Type 0 where
  place : ℕ
  found : find (is_label n) xs ≡ Some place
  rest : drop place xs ≡ drop there ys

behind_tables : (n before count there : ℕ) (cs : List Command) → find (is_label n) cs ≡ Some there → Behind n count there (tables before count ++ cs) cs
behind_tables n before zero there cs h = record { place = there; found = h; rest = refl }
behind_tables n before (suc count) there cs h =
    let more = behind_tables n (before + 1) count there cs h in
    record { place = suc more.place; found = ap (λ o. option_map (λ k. suc k) o) more.found; rest = more.rest }

none_behind : (n before count : ℕ) (cs : List Command) → find (is_label n) cs ≡ None → find (is_label n) (tables before count ++ cs) ≡ None
none_behind n before zero cs h = h
none_behind n before (suc count) cs h = ap (λ o. option_map (λ k. suc k) o) (none_behind n (before + 1) count cs h)

module _ (reaching : ℕ → Bool) (f : Function) (n : ℕ) (less : n < FIRST_LABEL) where
  no_end : find (is_label n) (back reaching f) ≡ None
  no_end = rw (not_ahead n (numbers_in reaching f.commands) less) refl

  -- a label is found where it stood, with the commands that follow it
  pub record Found (to : ℕ) : Type 0 where
    pub there : ℕ
    pub found : place_of_label (saving_commands reaching f) n ≡ Some there
    pub before : ℕ
    pub rest : drop there (saving_commands reaching f) ≡ all_with_marks reaching (way_out reaching f) before (drop to f.commands) ++ back reaching f

  pub label_found : (to : ℕ) → place_of_label f.commands n ≡ Some to → Found to
  label_found to h =
      let at = label_there reaching (back reaching f) (way_out reaching f) n less no_end f.commands 0 to (sym (position_is (is_label n) f.commands) ∙ h) in
      let far = behind_tables n 0 (numbers_in reaching f.commands) at.there (all_with_marks reaching (way_out reaching f) 0 f.commands ++ back reaching f) at.found in
      record {
        there = suc far.place;
        found = position_is (is_label n) (saving_commands reaching f) ∙ ap (λ o. option_map (λ k. suc k) o) far.found;
        before = at.number;
        rest = far.rest ∙ at.rest;
      }

  pub jumps_there : (to : ℕ) → place_of_label f.commands n ≡ Some to → (there : ℕ) × ((place_of_label (saving_commands reaching f) n ≡ Some there) × Saving reaching f to there)
  jumps_there to h =
      let at = label_there reaching (back reaching f) (way_out reaching f) n less no_end f.commands 0 to (sym (position_is (is_label n) f.commands) ∙ h) in
      let far = behind_tables n 0 (numbers_in reaching f.commands) at.there (all_with_marks reaching (way_out reaching f) 0 f.commands ++ back reaching f) at.found in (
        suc far.place,
        (
          position_is (is_label n) (saving_commands reaching f) ∙ ap (λ o. option_map (λ k. suc k) o) far.found,
          record { silent = []; quiet = tt; before = at.number; rest = far.rest ∙ at.rest },
        ),
      )

  pub no_jump : place_of_label f.commands n ≡ None → place_of_label (saving_commands reaching f) n ≡ None
  no_jump h =
      let none = no_label reaching (back reaching f) (way_out reaching f) n less no_end f.commands 0 (sym (position_is (is_label n) f.commands) ∙ h) in
      position_is (is_label n) (saving_commands reaching f)
      ∙ ap (λ o. option_map (λ k. suc k) o) (none_behind n 0 (numbers_in reaching f.commands) (all_with_marks reaching (way_out reaching f) 0 f.commands ++ back reaching f) none)
