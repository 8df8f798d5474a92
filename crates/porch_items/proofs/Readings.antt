-- How far a text has been read, token by token.
use Rattle.std.proofs.Common.{◌≡◌, ℕ, ◌+◌, ◌||◌, ◌&&◌, ◌≤◌, List, [], ◌∷◌, ◌++◌, map, drop, length, Result, Ok, Err, IfOk, Some, None, true, if◌then◌else◌, refl, sym, ap, subst, ◌∙◌, Bor}
use Rattle.porch_tree.specs.Pieces.{Spelled}
use Rattle.porch_tree.specs.Grammar.{is_name}
use Rattle.porch_lex.specs.declared.token.Token.{Token}
use Rattle.porch_lex.specs.Words.{spelled_token, spelled}
use Rattle.porch_parts.specs.Parts.{begins, begins_base}
use Rattle.porch_parts.specs.Signs.{sign_of}
use Rattle.porch_statements.specs.declared.frame.Builder.{Builder}
use Rattle.porch_statements.specs.declared.frame.Point.{Point}
use Rattle.porch_statements.specs.declared.frame.Point.TheVariants as point
use Rattle.porch_statements.specs.Shown.{items_of, state_of}
use Rattle.porch_unit.specs.Units.{State, start, step_at, step, run, learned, ends_here, unit_in, is_behind_typedef, with_last}
use Rattle.porch_items.specs.inside.Reading.{AreTypes, HasStepped, HasRead}

-- the same names are types
pub begins_alike : (ks : List (Bor (List ℕ))) (names : List (List ℕ)) (t : Spelled) → AreTypes ks names
    → begins (map (λ k. k.now) ks) t.word t ≡ begins names t.word t
begins_alike ks names t h = ap (λ b. begins_base (sign_of t.word) || (is_name t.word && b)) (h t.bytes)

pub has_stepped : (ks new : List (Bor (List ℕ))) (names : List (List ℕ)) (s next : State) (t : Spelled) → AreTypes ks names
    → next ≡ step_at (begins (map (λ k. k.now) ks) t.word t) s t.word t → AreTypes new (learned names next) → HasStepped names s t new next
has_stepped ks new names s next t h e l =
    record { same = e ∙ ap (λ b. step_at b s t.word t) (begins_alike ks names t h); types = l }

-- behind one more token
pub has_read_on : (text : List ℕ) (ts : List Token) (i : ℕ) (t : Token) (ks new : List (Bor (List ℕ))) (s next : State)
    → drop i ts ≡ t ∷ drop (i + 1) ts → (h : HasRead ks s (spelled text (drop i ts)) (spelled text ts))
    → HasStepped h.names s (spelled_token text t) new next → HasRead new next (spelled text (drop (i + 1) ts)) (spelled text ts)
has_read_on text ts i t ks new s next e h o =
    record {
      names = learned h.names next;
      types = o.types;
      same =
          ap (λ z. run (learned h.names z) z (spelled text (drop (i + 1) ts))) o.same
          ∙ ap (λ us. run h.names s (spelled text us)) (sym e) ∙ h.same;
    }

-- behind all
pub has_read_all : (ks : List (Bor (List ℕ))) (s : State) (left all : List Spelled) → left ≡ [] → HasRead ks s left all → s ≡ run [] start all
has_read_all ks s left all e h = ap (run h.names s) (sym e) ∙ h.same

pub at_start : (all : List Spelled) (ks : List (Bor (List ℕ))) → ks ≡ [] → HasRead ks start all all
at_start all ks e = record { names = []; types = λ n. rw e refl; same = refl }

-- the unit, where one can end
pub unit_at : (text : List ℕ) (b : Builder) (x : Point)
    → (if ends_here (state_of text b x).point then Some (items_of text b.items) else None) ≡ unit_in (state_of text b x)
unit_at text b point.AtItem = refl
unit_at text b point.BehindTypedef = refl
unit_at text b (point.InTypedef a) = refl
unit_at text b (point.InItem a) = refl
unit_at text b (point.InDeclaration a) = refl
unit_at text b point.AtFirst = refl
unit_at text b point.AtStatement = refl
unit_at text b (point.AtParenthesis a) = refl
unit_at text b (point.AtValue a) = refl
unit_at text b (point.InValue a c) = refl
unit_at text b (point.AtEnd a) = refl
unit_at text b (point.AtBrace a c) = refl
unit_at text b (point.AtColon a) = refl
unit_at text b (point.Ended a) = refl
unit_at text b point.Broken = refl

items_at : (text : List ℕ) (b : Builder) (p : Point) → (state_of text b p).items ≡ items_of text b.items
items_at text b point.AtItem = refl
items_at text b point.BehindTypedef = refl
items_at text b (point.InTypedef s) = refl
items_at text b (point.InItem s) = refl
items_at text b (point.InDeclaration s) = refl
items_at text b point.AtFirst = refl
items_at text b point.AtStatement = refl
items_at text b (point.AtParenthesis p) = refl
items_at text b (point.AtValue p) = refl
items_at text b (point.InValue p t) = refl
items_at text b (point.AtEnd s) = refl
items_at text b (point.AtBrace at' e) = refl
items_at text b (point.AtColon at') = refl
items_at text b (point.Ended s) = refl
items_at text b point.Broken = refl

-- behind the `;` of a typedef
pub learned_behind : (text : List ℕ) (names : List (List ℕ)) (b : Builder) (p : Point) → is_behind_typedef (state_of text b p).point ≡ true
    → learned names (state_of text b p) ≡ with_last names (items_of text b.items)
learned_behind text names b p behind = rw behind (ap (with_last names) (items_at text b p))
