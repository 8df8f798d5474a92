-- What is read from left to right is what the words order, and nothing else.
use Rattle.std.proofs.Common.{◌≡◌, ℕ, List, [], ◌∷◌, ◌++◌, Bool, true, false, refl, sym, ap, subst, ◌∙◌, inl, inr}
use lib.Pointwise.{bytes_decides}
use Rattle.std.specs.Prelude.{Some, None, IsTrue, if◌then◌else◌, codes}
use Rattle.std.specs.declared.option.Option.{Option}
use Rattle.std.specs.Option.{option_map}
use Rattle.std.specs.Str.{bytes_eq}
use Rattle.porch_words.specs.declared.read.TheConstants.{MOST_NUMBER}
use Rattle.porch_words.specs.declared.command.Command.{Command}
use Rattle.porch_words.specs.declared.command.Command.TheVariants.{Exec, Compile, Start, Resume, Clear, Vet, Show}
use Rattle.porch_words.specs.declared.option.Key.{Key}
use Rattle.porch_words.specs.Spelling.{command_name, drill_name, option_name, has_option}
use Rattle.porch_words.specs.Orders.{Setting, key_of, Given, nothing, with_setting, is_new, Order, drill, order_with}
use Rattle.porch_words.specs.Words.{AreOptions, IsCommand, IsDrill, IsOrder}
use Rattle.porch_words.specs.inside.Reading.{Part, joined, apart, neither, part_of, by_part, and_then, put, read, number_of, drill_of, command_of, order_in}
use Rattle.porch_words.proofs.Steps.{reads_joined, reads_apart}
use Rattle.porch_words.proofs.Named.{command_named, command_found, part_named, part_valued, part_joined, part_apart}
use Rattle.porch_words.proofs.Values.{number_gives, number_takes, Puts, put_gives, put_takes}

none_some : {X : Type 0} (x : X) → let o : Option X = None in o ≡ Some x → ⊥
none_some x e = cc

same_some : {X : Type 0} (x y : X) → Some x ≡ Some y → x ≡ y
same_some x y e = cc

-- these words give this behind what was given before
abbrev Given_by : Command → Given → List (List ℕ) → Given → Type 0
Given_by c g ws h = (ss : List Setting) × AreOptions c g ss ws h

with_joined : (c : Command) (g f h : Given) (k : Key) (v w : List ℕ) (ws : List (List ℕ)) → part_of w ≡ joined k v → Puts c g k v f → Given_by c f ws h → Given_by c g (w ∷ ws) h
with_joined c g f h k v w ws e p more =
    let at : w ≡ option_name (key_of p.setting) ++ codes "=" ++ v = part_joined w v k e ∙ ap (λ j. option_name j ++ codes "=" ++ v) (sym p.key) in
    let behind : AreOptions c (with_setting g p.setting) more.0 ws h = subst (λ x. AreOptions c x more.0 ws h) (sym p.same) more.1 in (
      p.setting ∷ more.0,
      (
        subst (λ j. IsTrue (has_option c j)) (sym p.key) p.has,
        subst (λ j. IsTrue (is_new g j)) (sym p.key) p.new,
        (ws, record { value = v; fits = p.value; spelled = inr (ap (λ x. x ∷ ws) at) }, behind),
      ),
    )

with_apart : (c : Command) (g f h : Given) (k : Key) (v w : List ℕ) (ws : List (List ℕ)) → part_of w ≡ apart k → Puts c g k v f → Given_by c f ws h → Given_by c g (w ∷ v ∷ ws) h
with_apart c g f h k v w ws e p more =
    let at : w ≡ option_name (key_of p.setting) = part_apart w k e ∙ ap option_name (sym p.key) in
    let behind : AreOptions c (with_setting g p.setting) more.0 ws h = subst (λ x. AreOptions c x more.0 ws h) (sym p.same) more.1 in (
      p.setting ∷ more.0,
      (
        subst (λ j. IsTrue (has_option c j)) (sym p.key) p.has,
        subst (λ j. IsTrue (is_new g j)) (sym p.key) p.new,
        (ws, record { value = v; fits = p.value; spelled = inl (ap (λ x. x ∷ v ∷ ws) at) }, behind),
      ),
    )

-- the first of two steps
first : (c : Command) (o : Option Given) (ws : List (List ℕ)) (h : Given) → and_then o (λ f. read c f ws) ≡ Some h → (f : Given) × (o ≡ Some f) × (read c f ws ≡ Some h)
first c None ws h e = absurd (none_some h e)
first c (Some f) ws h e = (f, refl, e)

given_none : (c : Command) (g h : Given) → Some g ≡ Some h → Given_by c g [] h
given_none c g h e = ([], (refl, sym (same_some g h e)))

alone : (c : Command) (g h : Given) (w : List ℕ) (p : Part) → part_of w ≡ p → by_part p (λ k x. put c g k x) (λ k. None) ≡ Some h → Given_by c g (w ∷ []) h
alone c g h w (joined k v) s e = with_joined c g h h k v w [] s (put_gives c g k v h e) (given_none c h h refl)
alone c g h w (apart k) s e = absurd (none_some h e)
alone c g h w neither s e = absurd (none_some h e)

-- a word and the next one, and what others give
several : (c : Command) (g h : Given) (w v : List ℕ) (vs : List (List ℕ)) (p : Part) → part_of w ≡ p → ((f : Given) → read c f (v ∷ vs) ≡ Some h → Given_by c f (v ∷ vs) h) → ((f : Given) → read c f vs ≡ Some h → Given_by c f vs h) → by_part p (λ k x. and_then (put c g k x) (λ f. read c f (v ∷ vs))) (λ k. and_then (put c g k v) (λ f. read c f vs)) ≡ Some h → Given_by c g (w ∷ v ∷ vs) h
several c g h w v vs (joined k x) s one two e =
    let f = first c (put c g k x) (v ∷ vs) h e in
    with_joined c g f.0 h k x w (v ∷ vs) s (put_gives c g k x f.0 f.1) (one f.0 f.2)
several c g h w v vs (apart k) s one two e =
    let f = first c (put c g k v) vs h e in
    with_apart c g f.0 h k v w vs s (put_gives c g k v f.0 f.1) (two f.0 f.2)
several c g h w v vs neither s one two e = absurd (none_some h e)

-- what is read, the words give
pub gives : (c : Command) (g h : Given) (ws : List (List ℕ)) → read c g ws ≡ Some h → Given_by c g ws h
unfolding read
gives c g h [] e = given_none c g h e
gives c g h (w ∷ []) e = alone c g h w (part_of w) refl e
gives c g h (w ∷ v ∷ vs) e =
    several c g h w v vs (part_of w) refl (λ f r. gives c f h (v ∷ vs) r) (λ f r. gives c f h vs r) e

-- and what they give is read
pub takes : (c : Command) (g h : Given) (ss : List Setting) (ws : List (List ℕ)) → AreOptions c g ss ws h → read c g ws ≡ Some h
unfolding read
takes c g h [] ws a = rw (a.0, a.1) refl
takes c g h (s ∷ ss) ws a =
    let rest = a.2.0 in
    let begin = a.2.1 in
    let more = takes c (with_setting g s) h ss rest a.2.2 in
    let put = put_takes c g begin.value s begin.fits a.0 a.1 in
    elim begin.spelled [
      | inl e ↦ rw e (reads_apart c g (key_of s) (option_name (key_of s)) begin.value rest (part_named (key_of s)) ∙ (rw put more))
      | inr e ↦ rw e (reads_joined c g (key_of s) begin.value (option_name (key_of s) ++ codes "=" ++ begin.value) rest (part_valued (key_of s) begin.value) ∙ (rw put more))
    ]

-- commands aren't named as `drill`
no_drill : (c : Command) → bytes_eq (command_name c) drill_name ≡ false
no_drill Exec = refl
no_drill Compile = refl
no_drill Start = refl
no_drill Resume = refl
no_drill Clear = refl
no_drill Vet = refl
no_drill Show = refl

drills : (ws : List (List ℕ)) (o : Order) → drill_of ws ≡ Some o → IsDrill (drill_name ∷ ws) o
drills [] o e = absurd (none_some o e)
drills (w ∷ []) o e = of (number_of 0 MOST_NUMBER w) refl e
  where
    of : (n : Option ℕ) → number_of 0 MOST_NUMBER w ≡ n → option_map drill n ≡ Some o → IsDrill (drill_name ∷ w ∷ []) o
    of None s e = absurd (none_some o e)
    of (Some n) s e =
        record { number = n; word = w; spelled = refl; fits = number_gives 0 MOST_NUMBER w n s; ordered = sym (same_some (drill n) o e) }
drills (w ∷ v ∷ vs) o e = absurd (none_some o e)

commands : (w : List ℕ) (ws : List (List ℕ)) (o : Order) (c : Option Command) → command_of w ≡ c → and_then c (λ c. option_map (order_with c) (read c nothing ws)) ≡ Some o → IsCommand (w ∷ ws) o
commands w ws o None s e = absurd (none_some o e)
commands w ws o (Some c) s e = of (read c nothing ws) refl e
  where
    of : (g : Option Given) → read c nothing ws ≡ g → option_map (order_with c) g ≡ Some o → IsCommand (w ∷ ws) o
    of None r e = absurd (none_some o e)
    of (Some g) r e =
        let by = gives c nothing g ws r in
        record {
          command = c;
          options = ws;
          settings = by.0;
          given = g;
          spelled = ap (λ x. x ∷ ws) (command_named w c s);
          read = by.1;
          ordered = sym (same_some (order_with c g) o e);
        }

-- what is read is ordered
pub is_ordered : (ws : List (List ℕ)) (o : Order) → order_in ws ≡ Some o → IsOrder ws o
is_ordered [] o e = absurd (none_some o e)
is_ordered (w ∷ ws) o e = by (bytes_eq w drill_name) refl e
  where
    by : (b : Bool) → bytes_eq w drill_name ≡ b → (if b then drill_of ws else and_then (command_of w) (λ c. option_map (order_with c) (read c nothing ws))) ≡ Some o → IsOrder (w ∷ ws) o
    by true s e = let same = (bytes_decides w drill_name).0 s in inr (subst (λ x. IsDrill (x ∷ ws) o) (sym same) (drills ws o e))
    by false s e = inl (commands w ws o (command_of w) refl e)

-- and nothing else is
pub is_only : (ws : List (List ℕ)) (o : Order) → IsOrder ws o → order_in ws ≡ Some o
is_only ws o (inl h) =
    let read = takes h.command nothing h.given h.settings h.options h.read in
    rw (h.spelled, no_drill h.command, command_found h.command, read, h.ordered) refl
is_only ws o (inr h) =
    let number = number_takes 0 MOST_NUMBER h.word h.number h.fits in
    rw (h.spelled, number, h.ordered) refl
