-- How parts of a text follow one another.
use Rattle.std.proofs.Common.{ℕ, List, refl, sym, ap, subst, ◌∙◌, inl, inr, Result, Ok, Err}
use Rattle.porch_lex.specs.declared.refusal.Refusal.{Refusal}
use Rattle.porch_check.specs.Refusals.{and_then}
use Rattle.porch_check.specs.Shapes.{Shape, Shapes, structure, numbered}
use Rattle.porch_check.specs.Scopes.{Meaning, variable, global, type_name, enumerator, function, library, null, Scope, Scopes, of_name, with_shapes, with_shape}
use Rattle.porch_check.specs.Operands.{Typing, go_on}
use Rattle.porch_check.specs.Expressions.{behind}
use Rattle.porch_check.specs.Operands.{Form}
use Rattle.porch_typing.specs.Shapes.{Each, IsKnown, IsShape, parts_of, ComeTo, GoOn}
use Rattle.porch_typing.specs.States.{IsMeaning, IsScope, IsState, Stays, KeepsNames, Holds, Gives}
use Rattle.porch_typing.specs.Ends.{End, IsMeant, AreMeant, Agrees}
use Rattle.porch_typing.specs.Forms.{Leads, Passes}
use Rattle.porch_typing.proofs.Lists.{each_weaker}
use Rattle.porch_typing.proofs.Shapes.{stay, go_further, known_on, IsNumbered, numbers}

meaning_on : (last s t : Shapes) (m : Meaning) → GoOn last s t → IsMeaning s m → IsMeaning t m
meaning_on last s t (variable k n) g h = known_on last s t n g h
meaning_on last s t (global k n) g h = known_on last s t n g h
meaning_on last s t (type_name n) g h = known_on last s t n g h
meaning_on last s t (enumerator z) g h = tt
meaning_on last s t function g h = tt
meaning_on last s t (library l) g h = tt
meaning_on last s t null g h = tt

pub scope_on : (last s t : Shapes) (c : Scope) → GoOn last s t → IsScope s c → IsScope t c
scope_on last s t c g h =
    record {
      names = λ x m e. meaning_on last s t m g (h.names x m e);
      tags = λ x tag e. (let old = h.tags x tag e in
          record { known = known_on last s t tag.shape g old.known; struct = λ b. g.kept tag.shape (structure tag.shape) (old.struct b) });
    }

pub scopes_on : (last s t : Shapes) (cs : List Scope) → GoOn last s t → Each (IsScope s) cs → Each (IsScope t) cs
scopes_on last s t cs g h = each_weaker (IsScope s) (IsScope t) cs (λ c e. scope_on last s t c g e) h

pub state_on : (last : Shapes) (s : Scopes) (t : Shapes) → GoOn last s.shapes t → IsState s → IsState (with_shapes t s)
state_on last s t g h =
    record { shapes = g.are; inner = scope_on last s.shapes t s.inner g h.inner; outer = scopes_on last s.shapes t s.outer g h.outer }

pub nothing_changed : (s : Scopes) → Stays s s
nothing_changed s = record { outer = refl; declared = refl; variables = refl; globals = refl; entries = refl; functions = refl }

pub stays_further : (s t u : Scopes) → Stays s t → Stays t u → Stays s u
stays_further s t u a b =
    record {
      outer = b.outer ∙ a.outer;
      declared = b.declared ∙ a.declared;
      variables = b.variables ∙ a.variables;
      globals = b.globals ∙ a.globals;
      entries = b.entries ∙ a.entries;
      functions = b.functions ∙ a.functions;
    }

pub names_further : (a b c : Scope) → KeepsNames a b → KeepsNames b c → KeepsNames a c
names_further a b c p q = λ x m e. elim (q x m e) [ inl h ↦ p x m h | inr h ↦ inr h ]

module _ (w : End) where
  pub agrees_on : (s t : Scopes) → Stays s t → KeepsNames s.inner t.inner → Agrees w s → Agrees w t
  agrees_on s t stays names a =
      record {
        inner = λ x m e. elim (names x m e) [
          | inl h ↦ a.inner x m h
          | inr h ↦ subst (λ m. IsMeant w m) (sym h.1) h.2
        ];
        outer = subst (λ cs. Each (AreMeant w) cs) (sym stays.outer) a.outer;
        declared = λ x n e. a.declared x n (ap (λ (ds : List (List ℕ × ℕ)). of_name x ds) (sym stays.declared) ∙ e);
      }

  -- one part behind another

  joined : {A B : Type 0} {K : A → Scopes → Type 0} {R : A → Type 0} {K' : B → Scopes → Type 0} {R' : B → Type 0} (s t u : Scopes) (x : A) (y : B)
      → Leads w K R s x t → Leads w K' (λ y. R x → R' y) t y u → Leads w K' R' s y u
  joined s t u x y l m =
      record {
        goes = go_further w.last s.shapes t.shapes u.shapes l.goes m.goes;
        state = m.state;
        stays = stays_further s t u l.stays m.stays;
        names = names_further s.inner t.inner u.inner l.names m.names;
        known = m.known;
        holds = λ a c. m.holds (agrees_on s t l.stays l.names a) c (l.holds a (m.goes.back c));
      }

  behind_it : {A B : Type 0} {K : A → Scopes → Type 0} {R : A → Type 0} {K' : B → Scopes → Type 0} {R' : B → Type 0} (s t : Scopes) (x : A) (r : Typing B)
      → Leads w K R s x t → Holds (Leads w K' (λ y. R x → R' y) t) r → Holds (Leads w K' R' s) r
  behind_it s t x (Ok y) l h = record { is = joined s t y.1 x y.0 l h.is }
  behind_it s t x (Err e) l h = record { is = tt }

  pub follow : {A B : Type 0} {K : A → Scopes → Type 0} {R : A → Type 0} {K' : B → Scopes → Type 0} {R' : B → Type 0} (s : Scopes) (r : Typing A)
      (go : A → Scopes → Typing B) → Holds (Leads w K R s) r
      → ((x : A) (t : Scopes) → GoOn w.last s.shapes t.shapes → IsState t → K x t → Holds (Leads w K' (λ y. R x → R' y) t) (go x t))
      → Holds (Leads w K' R' s) (go_on r go)
  follow s (Ok x) go h k = behind_it s x.1 x.0 (go x.0 x.1) h.is (k x.0 x.1 h.is.goes h.is.state h.is.known)
  follow s (Err e) go h k = record { is = tt }

  -- what is found without a change of what is known
  pub found : {A : Type 0} {K : A → Scopes → Type 0} {R : A → Type 0} (s : Scopes) (x : A) → IsState s → K x s
      → (Agrees w s → ComeTo s.shapes w.last → R x) → Holds (Leads w K R s) (Ok (x, s))
  found s x h k r =
      record {
        is = record {
          goes = stay w.last s.shapes h.shapes;
          state = h;
          stays = nothing_changed s;
          names = λ x m e. inl e;
          known = k;
          holds = r;
        };
      }

  pub refused : {A : Type 0} {P : A → Scopes → Type 0} (r : Refusal) → Holds P (Err r)
  refused r = record { is = tt }

  -- what follows from what holds
  pub so : {A : Type 0} {K : A → Scopes → Type 0} {R : A → Type 0} {Q : A → Type 0} (s : Scopes) (r : Typing A) → Holds (Leads w K R s) r
      → ((x : A) → Agrees w s → R x → Q x) → Holds (Leads w K Q s) r
  so s (Ok x) h k =
      (let l = h.is in
      record {
        is = record {
          goes = l.goes;
          state = l.state;
          stays = l.stays;
          names = l.names;
          known = l.known;
          holds = λ a c. k x.0 a (l.holds a c);
        };
      })
  so s (Err e) h k = record { is = tt }

  -- a type is given a number
  pub shaped : {A : Type 0} {K : A → Scopes → Type 0} {R : A → Type 0} (s : Scopes) (x : Shape) (make : ℕ → A) → IsState s
      → Each (IsKnown s.shapes) (parts_of x) → ((n : ℕ) (t : Scopes) → IsKnown t.shapes n → GoOn w.last s.shapes t.shapes → K (make n) t)
      → ((n : ℕ) → Agrees w s → ComeTo s.shapes w.last → IsShape w.last n x → R (make n))
      → Holds (Leads w K R s) (Ok (make (with_shape x s).0, (with_shape x s).1))
  shaped s x make h parts known right =
      let n : IsNumbered w.last s.shapes x (numbered x s.shapes) = numbers w.last s.shapes x h.shapes parts in
      record {
        is = record {
          goes = n.goes;
          state = state_on w.last s (numbered x s.shapes).1 n.goes h;
          stays = record { outer = refl; declared = refl; variables = refl; globals = refl; entries = refl; functions = refl };
          names = λ x m e. inl e;
          known = known (numbered x s.shapes).0 (with_shapes (numbered x s.shapes).1 s)
              (Rattle.porch_typing.proofs.Shapes.shape_known (numbered x s.shapes).1 (numbered x s.shapes).0 x n.shape) n.goes;
          holds = λ a c. right (numbered x s.shapes).0 a (n.goes.back c) (c.shapes (numbered x s.shapes).0 x n.shape);
        };
      }

-- Results that change nothing.

pub under : {A : Type 0} {H : Type 0} {Q : A → Type 0} (r : Result A Refusal) → (H → Gives Q r) → Gives (λ x. H → Q x) r
under (Ok x) k = record { is = λ h. (k h).is }
under (Err e) k = record { is = tt }

pub then_gives : {A B : Type 0} (P : A → Type 0) (Q : B → Type 0) (r : Result A Refusal) (go : A → Result B Refusal) → Gives P r
    → ((x : A) → P x → Gives Q (go x)) → Gives Q (and_then r go)
then_gives P Q (Ok x) go h k = k x h.is
then_gives P Q (Err e) go h k = record { is = tt }

pub gives_more : {A : Type 0} (P Q : A → Type 0) (r : Result A Refusal) → Gives P r → ((x : A) → P x → Q x) → Gives Q r
gives_more P Q (Ok x) h k = record { is = k x h.is }
gives_more P Q (Err e) h k = record { is = tt }

pub gives_all : {A : Type 0} {Q : A → Type 0} (r : Result A Refusal) → ((x : A) → Q x) → Gives Q r
gives_all (Ok x) k = record { is = k x }
gives_all (Err e) k = record { is = tt }

module _ (w : End) where
  pub pure : {A B : Type 0} {K : B → Scopes → Type 0} {R : B → Type 0} (s : Scopes) (r : Result A Refusal) (make : A → B) → IsState s
      → Gives (λ x. K (make x) s) r → (Agrees w s → ComeTo s.shapes w.last → Gives (λ x. R (make x)) r)
      → Holds (Leads w K R s) (and_then r (λ x. Ok (make x, s)))
  pure s (Ok x) make h k right = found w s (make x) h k.is (λ a c. (right a c).is)
  pure s (Err e) make h k right = record { is = tt }

  pub formed : {R : Form → Type 0} {K : Form → Scopes → Type 0} (s : Scopes) (r : Result Form Refusal) → IsState s → Gives (λ f. K f s) r
      → (Agrees w s → ComeTo s.shapes w.last → Gives R r) → Holds (Leads w K R s) (behind r s)
  formed s r h k right = pure s r (λ f. f) h k right

  -- Parameters.

  pub passing : {A : Type 0} {K : A → Scopes → Type 0} {R : A → Type 0} (s : Scopes) (r : Typing A) → Holds (Leads w K R s) r → Holds (Passes w K s) r
  passing s (Ok x) h = record { is = record { goes = h.is.goes; state = h.is.state; stays = h.is.stays; known = h.is.known } }
  passing s (Err e) h = record { is = tt }

  passes_behind : {A B : Type 0} {K : A → Scopes → Type 0} {K' : B → Scopes → Type 0} (s t : Scopes) (x : A) (r : Typing B)
      → Passes w K s x t → Holds (Passes w K' t) r → Holds (Passes w K' s) r
  passes_behind s t x (Ok y) l h =
      record {
        is = record {
          goes = go_further w.last s.shapes t.shapes (y.1).shapes l.goes h.is.goes;
          state = h.is.state;
          stays = stays_further s t y.1 l.stays h.is.stays;
          known = h.is.known;
        };
      }
  passes_behind s t x (Err e) l h = record { is = tt }

  pub pass_on : {A B : Type 0} {K : A → Scopes → Type 0} {K' : B → Scopes → Type 0} (s : Scopes) (r : Typing A) (go : A → Scopes → Typing B)
      → Holds (Passes w K s) r → ((x : A) (t : Scopes) → GoOn w.last s.shapes t.shapes → IsState t → K x t → Holds (Passes w K' t) (go x t))
      → Holds (Passes w K' s) (go_on r go)
  pass_on s (Ok x) go h k = passes_behind s x.1 x.0 (go x.0 x.1) h.is (k x.0 x.1 h.is.goes h.is.state h.is.known)
  pass_on s (Err e) go h k = record { is = tt }

  pub passed : {A : Type 0} {K : A → Scopes → Type 0} (s : Scopes) (x : A) → IsState s → K x s → Holds (Passes w K s) (Ok (x, s))
  passed s x h k = record { is = record { goes = stay w.last s.shapes h.shapes; state = h; stays = nothing_changed s; known = k } }
