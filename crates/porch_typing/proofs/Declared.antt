-- Bases, members, enumeration constants, declarators, parameters and type names, by what stands round them.
use Rattle.std.proofs.Common.{◌≡◌, ◌<◌, ℕ, ℤ, pos, ◌+ℤ◌, List, [], ◌∷◌, ◌++◌, length, map, refl, subst, inl, inr, ◌⊎◌, arith, Option, Some, None, Bool, true, false, Ok, Err}
use Rattle.std.specs.Prelude.{nat_le, if◌then◌else◌, ◌&&◌, not, is_some}
use Rattle.std.specs.List.{list_any}
use Rattle.std.specs.Str.{bytes_eq}
use Rattle.porch_lex.specs.declared.refusal.Rule.TheVariants.{Mismatch, Twice, TooLarge}
use Rattle.porch_types.specs.declared.shapes.Kind.{Kind}
use Rattle.porch_types.specs.declared.shapes.Kind.TheVariants.{Char, UChar, Short, UShort, Int, UInt, Long, ULong}
use Rattle.porch_types.specs.Kinds.{kind_number, int_type}
use Rattle.porch_types.specs.Leaves.{MOST_LEAVES}
use Rattle.porch_values.specs.Integers.{in_range}
use Rattle.porch_tree.specs.declared.tree.TagSort.{TagSort}
use Rattle.porch_tree.specs.declared.tree.TagSort.TheVariants.{Struct, Enum}
use Rattle.porch_tree.specs.Mirror.{Name}
use Rattle.porch_check.specs.Refusals.{refuse}
use Rattle.porch_check.specs.Shapes.{Shape, void, pointer, array, structure, function, Member, Shapes, shape_of, size_of, is_complete, is_ever_complete, numbered, with_struct, completed, VOID}
use Rattle.porch_check.specs.Shapes as shape
use Rattle.porch_check.specs.Scopes.{Meaning, Tag, Scope, Scopes, of_name, of_tag, or_else, name_in, tag_in, meaning_of, tag_of, tag_here, hindrance, with_name, with_tag, with_struct_tag, with_shape, with_shapes, new_scope, entered, left}
use Rattle.porch_check.specs.Scopes as scope
use Rattle.porch_check.specs.Operands.{Typed, Value, integer, Typing, go_on}
use Rattle.porch_check.specs.Constants.{Folded, known, no_constant, undefined, folded}
use Rattle.porch_check.specs.Declarations.{known_or, constant_of, with_constant, named_type, tag_type, tagged, begun_struct, begin_struct, Members, with_member, declared_member, end_struct, begun_enum, begin_enum, enumerated, if_new, Parameter, Part, star, counted, listed, stars_of, part_at, if_small, result_type, part_type, type_of_parts, parameter_type, with_parameter, if_new_parameter, declared_parameter, is_incomplete, named_whole, sized_type}
use Rattle.porch_typing.specs.Shapes.{Each, IsKnown, IsShape, parts_of, AreShapes, GoOn}
use Rattle.porch_typing.specs.States.{IsMeaning, IsTag, IsScope, IsState, Stays, IsEnumerator, Holds}
use Rattle.porch_typing.specs.Ends.{End, IsEnd, IsComplete}
use Rattle.porch_typing.specs.Forms.{NoFact, IsType, IsPart, AreParts, Leads, Passes, Anything}
use Rattle.porch_typing.proofs.Lists.{each_weaker, each_joined}
use Rattle.porch_typing.proofs.Shapes.{stay, known_on, known_shape, shape_known, new_struct, struct_completed}
use Rattle.porch_typing.proofs.States.{scope_on, scopes_on, state_on, follow, found, refused, shaped, so, passing, pass_on, passed}
use Rattle.porch_typing.proofs.Ends.{complete_is_known, complete_on}
use Rattle.porch_typing.proofs.Calls.{known_meaning}

kind_small : (kind : Kind) → kind_number kind < 9
kind_small Char = omega arith
kind_small UChar = omega arith
kind_small Short = omega arith
kind_small UShort = omega arith
kind_small Int = omega arith
kind_small UInt = omega arith
kind_small Long = omega arith
kind_small ULong = omega arith

pub kind_known : (s : Shapes) (kind : Kind) → AreShapes s → IsKnown s (kind_number kind)
kind_known s kind h = let k = h.kinds in let small = kind_small kind in omega (arith, k, small)

pub void_known : (s : Shapes) → AreShapes s → IsKnown s VOID
void_known s h = let k = h.kinds in omega (arith, k)

-- Tags.

either_tag : (o p : Option Tag) (t : Tag) → or_else o p ≡ Some t → (o ≡ Some t) ⊎ (p ≡ Some t)
either_tag None p t e = inr e
either_tag (Some u) p t e = inl e

tag_known : (s : Shapes) (cs : List Scope) → Each (IsScope s) cs → (x : List ℕ) (t : Tag) → tag_in x cs ≡ Some t → IsTag s t
tag_known s [] h x t e = absurd (cc)
tag_known s (c ∷ cs) h x t e =
    elim (either_tag (of_tag x c.tags) (tag_in x cs) t e) [
      | inl own ↦ (h.0).tags x t own
      | inr outer ↦ tag_known s cs h.1 x t outer
    ]

pub tag_is : (s : Scopes) → IsState s → (x : List ℕ) (t : Tag) → tag_of x s ≡ Some t → IsTag s.shapes t
tag_is s st x t e = tag_known s.shapes (s.inner ∷ s.outer) (st.inner, st.outer) x t e

-- a tag in front of the others
with_tag_scope : (s : Shapes) (c : Scope) (t : Tag) → IsScope s c → IsTag s t → IsScope s (record c { tags = t ∷ c.tags })
with_tag_scope s c t h k =
    record { names = h.names; tags = λ x u e. by x u (bytes_eq x t.name) e }
  where
    by : (x : List ℕ) (u : Tag) (b : Bool) → (if b then Some t else of_tag x c.tags) ≡ Some u → IsTag s u
    by x u true e = (let same : t ≡ u = cc in subst (λ u. IsTag s u) same k)
    by x u false e = h.tags x u e

pub with_tag_state : (s : Scopes) (t : Tag) → IsState s → IsTag s.shapes t → IsState (with_tag t s)
with_tag_state s t h k = record { shapes = h.shapes; inner = with_tag_scope s.shapes s.inner t h.inner k; outer = h.outer }

with_name_scope : (s : Shapes) (c : Scope) (x : List ℕ) (m : Meaning) → IsScope s c → IsMeaning s m → IsScope s (record c { names = (x, m) ∷ c.names })
with_name_scope s c x m h k =
    record { names = λ y n e. by y n (bytes_eq y x) e; tags = h.tags }
  where
    by : (y : List ℕ) (n : Meaning) (b : Bool) → (if b then Some m else of_name y c.names) ≡ Some n → IsMeaning s n
    by y n true e = (let same : m ≡ n = cc in subst (λ n. IsMeaning s n) same k)
    by y n false e = h.names y n e

pub with_name_state : (s : Scopes) (x : List ℕ) (m : Meaning) → IsState s → IsMeaning s.shapes m → IsState (with_name x m s)
with_name_state s x m h k = record { shapes = h.shapes; inner = with_name_scope s.shapes s.inner x m h.inner k; outer = h.outer }

same_stays : (s : Scopes) (c : Scope) (t : Shapes) → Stays s (record s { inner = c; shapes = t })
same_stays s c t = record { outer = refl; declared = refl; variables = refl; globals = refl; entries = refl; functions = refl }

module _ (w : End) (h : IsEnd w) where
  -- a struct of a tag, complete or not
  with_new_struct : {A : Type 0} {K : A → Scopes → Type 0} (s : Scopes) (x : List ℕ) (begun awaited : Bool) (make : ℕ → A) → IsState s
      → ((n : ℕ) (t : Scopes) → IsShape t.shapes n (structure n) → K (make n) t)
      → Leads w K NoFact s (make (length s.shapes.rows)) (with_tag (record { name = x; sort = Struct; shape = length s.shapes.rows; begun = begun }) (with_shapes (with_struct awaited s.shapes).1 s))
  with_new_struct s x begun awaited make st keeps =
      let n = new_struct w.last s.shapes awaited st.shapes in
      let t : Scopes = with_shapes (with_struct awaited s.shapes).1 s in
      let one = state_on w.last s (with_struct awaited s.shapes).1 n.0 st in
      let own : IsTag (with_struct awaited s.shapes).1 (record { name = x; sort = Struct; shape = length s.shapes.rows; begun = begun }) =
      record { known = shape_known (with_struct awaited s.shapes).1 (length s.shapes.rows) (structure (length s.shapes.rows)) n.1; struct = λ b. n.1 } in
      record {
        goes = n.0;
        state = with_tag_state (with_shapes (with_struct awaited s.shapes).1 s) _ one own;
        stays = record { outer = refl; declared = refl; variables = refl; globals = refl; entries = refl; functions = refl };
        names = λ x m e. inl e;
        known = keeps (length s.shapes.rows) (with_tag (record { name = x; sort = Struct; shape = length s.shapes.rows; begun = begun }) (with_shapes (with_struct awaited s.shapes).1 s)) n.1;
        holds = λ a c. tt;
      }

  pub named_rule : (at : ℕ) (x : List ℕ) (s : Scopes) → IsState s → Holds (Leads w IsType NoFact s) (named_type at (meaning_of x s) s)
  named_rule at x s st = by (meaning_of x s) refl
    where
      by : (o : Option Meaning) → meaning_of x s ≡ o → Holds (Leads w IsType NoFact s) (named_type at o s)
      by (Some (scope.type_name n)) e = found w s n st (known_meaning s st x (scope.type_name n) e) (λ a c. tt)
      by o e = refused w _

  pub tagged_rule : (sort : TagSort) (at : ℕ) (n : Name) (s : Scopes) → IsState s → Holds (Leads w IsType NoFact s) (tagged sort at n (tag_of n.bytes s) s)
  tagged_rule sort at n s st = by sort (tag_of n.bytes s) refl
    where
      used_as : (sort : TagSort) (t : Tag) (own : TagSort) → IsTag s.shapes t → Holds (Leads w IsType NoFact s) (tag_type sort at t own s)
      used_as Struct t Struct k = found w s t.shape st k.known (λ a c. tt)
      used_as Enum t Enum k = found w s int_type st (kind_known s.shapes Int st.shapes) (λ a c. tt)
      used_as Struct t Enum k = refused w _
      used_as Enum t Struct k = refused w _

      by : (sort : TagSort) (o : Option Tag) → tag_of n.bytes s ≡ o → Holds (Leads w IsType NoFact s) (tagged sort at n o s)
      by sort (Some t) e = used_as sort t t.sort (tag_is s st n.bytes t e)
      by Struct None e = record { is = with_new_struct s n.bytes false (list_any (λ y. bytes_eq n.bytes y) s.inner.completes) (λ n. n) st (λ n t k. shape_known t.shapes n (structure n) k) }
      by Enum None e = refused w _

  -- Structs: the number that begins one is a struct's.

  abbrev pub IsStruct : ℕ → Scopes → Type 0
  IsStruct n s = IsShape s.shapes n (structure n)

  pub begin_rule : (n : Option Name) (s : Scopes) → IsState s → Holds (Leads w IsStruct NoFact s) (begin_struct n s)
  begin_rule None s st =
      (let n = new_struct w.last s.shapes false st.shapes in
      record {
        is = record {
          goes = n.0;
          state = state_on w.last s (with_struct false s.shapes).1 n.0 st;
          stays = record { outer = refl; declared = refl; variables = refl; globals = refl; entries = refl; functions = refl };
          names = λ x m e. inl e;
          known = n.1;
          holds = λ a c. tt;
        };
      })
  begin_rule (Some n) s st = by (tag_here n.bytes s) refl
    where
      again : (t : Tag) (b : Bool) → t.begun ≡ b → IsTag s.shapes t
          → Holds (Leads w IsStruct NoFact s) (if b then refuse Twice n.at else Ok (t.shape, with_tag (record { name = n.bytes; sort = Struct; shape = t.shape; begun = true }) s))
      again t true e k = refused w _
      again t false e k =
          record {
            is = record {
              goes = stay w.last s.shapes st.shapes;
              state = with_tag_state s (record { name = n.bytes; sort = Struct; shape = t.shape; begun = true }) st (record { known = k.known; struct = λ b. k.struct e });
              stays = record { outer = refl; declared = refl; variables = refl; globals = refl; entries = refl; functions = refl };
              names = λ x m e. inl e;
              known = k.struct e;
              holds = λ a c. tt;
            };
          }

      by : (o : Option Tag) → tag_here n.bytes s ≡ o → Holds (Leads w IsStruct NoFact s) (begun_struct n o s)
      by None e = record { is = with_new_struct s n.bytes true (list_any (λ y. bytes_eq n.bytes y) s.inner.completes) (λ n. n) st (λ n t k. k) }
      by (Some t) e = again t t.begun refl (st.inner.tags n.bytes t e)

  -- members so far have known types
  abbrev pub AreMembers : Members → Scopes → Type 0
  AreMembers ms s = Each (λ (m : Member). IsKnown s.shapes m.shape) ms.list

  pub members_later : (s t : Scopes) (ms : Members) → GoOn w.last s.shapes t.shapes → AreMembers ms s → AreMembers ms t
  members_later s t ms g k =
      each_weaker (λ (m : Member). IsKnown s.shapes m.shape) (λ (m : Member). IsKnown t.shapes m.shape) ms.list (λ m e. known_on w.last s.shapes t.shapes m.shape g e) k

  pub member_rule : (at : ℕ) (n : Option Name) (x : ℕ) (ms : Members) (s : Scopes) → IsState s → IsType x s → AreMembers ms s
      → Holds (Leads w AreMembers NoFact s) (declared_member at n x ms s)
  member_rule at None x ms s st k ks = refused w _
  member_rule at (Some n) x ms s st k ks = by (list_any (λ (m : Member). bytes_eq n.bytes m.name) ms.list) (is_complete s.shapes x)
    where
      by : (twice complete : Bool) → Holds (Leads w AreMembers NoFact s)
          (if twice then refuse Twice n.at else if complete then Ok (with_member n x ms s, s) else refuse Mismatch at)
      by true b = refused w _
      by false true =
          found w s (with_member n x ms s) st (each_joined (λ (m : Member). IsKnown s.shapes m.shape) ms.list _ ks (k, tt)) (λ a c. tt)
      by false false = refused w _

  pub end_rule : (at x : ℕ) (ms : Members) (s : Scopes) → IsState s → IsStruct x s → AreMembers ms s
      → Holds (Leads w IsType NoFact s) (end_struct at x ms s)
  end_rule at x ms s st k ks = by (nat_le ms.leaves MOST_LEAVES)
    where
      by : (b : Bool) → Holds (Leads w IsType NoFact s) (if b then Ok (x, with_shapes (completed x ms.list ms.leaves s.shapes) s) else refuse TooLarge at)
      by true =
          (let g = struct_completed w.last s.shapes x ms.leaves ms.list h.once st.shapes k ks in
          record {
            is = record {
              goes = g;
              state = state_on w.last s (completed x ms.list ms.leaves s.shapes) g st;
              stays = record { outer = refl; declared = refl; variables = refl; globals = refl; entries = refl; functions = refl };
              names = λ x m e. inl e;
              known = known_on w.last s.shapes (completed x ms.list ms.leaves s.shapes) x g (shape_known s.shapes x (structure x) k);
              holds = λ a c. tt;
            };
          })
      by false = refused w _

  -- Enumerations.

  pub begin_enum_rule : (at : ℕ) (n : Option Name) (s : Scopes) → IsState s → Holds (Leads w IsType NoFact s) (begin_enum at n s)
  begin_enum_rule at None s st = found w s int_type st (kind_known s.shapes Int st.shapes) (λ a c. tt)
  begin_enum_rule at (Some n) s st = by (tag_here n.bytes s)
    where
      again : (t : Tag) (b : Bool) → Holds (Leads w IsType NoFact s) (if b then refuse Twice n.at else refuse Mismatch at)
      again t true = refused w _
      again t false = refused w _

      by : (o : Option Tag) → Holds (Leads w IsType NoFact s) (begun_enum at n o s)
      by None =
          record {
            is = record {
              goes = stay w.last s.shapes st.shapes;
              state = with_tag_state s (record { name = n.bytes; sort = Enum; shape = int_type; begun = true }) st
                  (record { known = kind_known s.shapes Int st.shapes; struct = λ b. absurd (cc) });
              stays = record { outer = refl; declared = refl; variables = refl; globals = refl; entries = refl; functions = refl };
              names = λ x m e. inl e;
              known = kind_known s.shapes Int st.shapes;
              holds = λ a c. tt;
            };
          }
      by (Some t) = again t t.begun

  pub enumerated_rule : (at : ℕ) (n : Name) (z : ℤ) (s : Scopes) → IsState s → Holds (Leads w Anything NoFact s) (enumerated at n z s)
  enumerated_rule at n z s st = by (in_range Int 32 z) refl
    where
      by : (b : Bool) → in_range Int 32 z ≡ b
          → Holds (Leads w Anything NoFact s) (if b then Ok (z +ℤ pos 1, with_name n.bytes (scope.enumerator z) s) else refuse Mismatch at)
      by true e =
          record {
            is = record {
              goes = stay w.last s.shapes st.shapes;
              state = with_name_state s n.bytes (scope.enumerator z) st tt;
              stays = record { outer = refl; declared = refl; variables = refl; globals = refl; entries = refl; functions = refl };
              names = λ y m i. new_name y m (bytes_eq y n.bytes) e i;
              known = tt;
              holds = λ a c. tt;
            };
          }
        where
          new_name : (y : List ℕ) (m : Meaning) (b : Bool) → in_range Int 32 z ≡ true → (if b then Some (scope.enumerator z) else of_name y s.inner.names) ≡ Some m
              → (of_name y s.inner.names ≡ Some m) ⊎ IsEnumerator m
          new_name y m true range i = inr (z, cc, range)
          new_name y m false range i = inl i
      by false e = refused w _

  -- Declarators.

  part_later : (s t : Scopes) (p : Part) → GoOn w.last s.shapes t.shapes → IsPart p s → IsPart p t
  part_later s t (star at) g k = tt
  part_later s t (counted at n) g k = tt
  part_later s t (listed at ps c) g k = (
    each_weaker (λ (p : Parameter). IsKnown s.shapes p.shape) (λ (p : Parameter). IsKnown t.shapes p.shape) ps
        (λ p e. known_on w.last s.shapes t.shapes p.shape g e) k.0,
    scope_on w.last s.shapes t.shapes c g k.1,
  )

  pub parts_later : (s t : Scopes) (ps : List Part) → GoOn w.last s.shapes t.shapes → AreParts ps s → AreParts ps t
  parts_later s t ps g k = each_weaker (λ (p : Part). IsPart p s) (λ (p : Part). IsPart p t) ps (λ p e. part_later s t p g e) k

  stars_fine : (at : ℕ) (stars : List ℕ) (s : Scopes) → AreParts (stars_of at stars) s
  stars_fine at [] s = tt
  stars_fine at (k ∷ stars) s = (tt, stars_fine at stars s)

  pub all_parts : (ps qs : List Part) (at : ℕ) (stars : List ℕ) (s : Scopes) → AreParts ps s → AreParts qs s → AreParts (ps ++ qs ++ stars_of at stars) s
  all_parts ps qs at stars s a b =
      each_joined (λ (p : Part). IsPart p s) (ps ++ qs) (stars_of at stars) (each_joined (λ (p : Part). IsPart p s) ps qs a b) (stars_fine at stars s)

  pub placed_parts : (at : ℕ) (ps : List Part) (s : Scopes) → AreParts ps s → AreParts (map (part_at at) ps) s
  placed_parts at [] s k = tt
  placed_parts at (star k ∷ ps) s h = (tt, placed_parts at ps s h.1)
  placed_parts at (counted k n ∷ ps) s h = (tt, placed_parts at ps s h.1)
  placed_parts at (listed k qs c ∷ ps) s h = (h.0, placed_parts at ps s h.1)

  numbered_type : (s : Scopes) (x : Shape) → IsState s → Each (IsKnown s.shapes) (parts_of x) → Holds (Leads w IsType NoFact s) (Ok (with_shape x s))
  numbered_type s x st parts = shaped w s x (λ n. n) st parts (λ n t k g. k) (λ n a c e. tt)

  small_type : (at : ℕ) (s : Scopes) (r : ℕ × Scopes) → Holds (Leads w IsType NoFact s) (Ok r) → Holds (Leads w IsType NoFact s) (if_small at r)
  small_type at s r k = by (nat_le (size_of (r.1).shapes r.0) MOST_LEAVES)
    where
      by : (b : Bool) → Holds (Leads w IsType NoFact s) (if b then Ok r else refuse TooLarge at)
      by true = k
      by false = refused w _

  known_shapes : (s : Scopes) (ps : List Parameter) → Each (λ (p : Parameter). IsKnown s.shapes p.shape) ps → Each (IsKnown s.shapes) (map (λ (p : Parameter). p.shape) ps)
  known_shapes s [] k = tt
  known_shapes s (p ∷ ps) k = (k.0, known_shapes s ps k.1)

  result_rule : (at : ℕ) (x : Shape) (n : ℕ) (ps : List Parameter) (s : Scopes) → IsState s → IsType n s → Each (λ (p : Parameter). IsKnown s.shapes p.shape) ps
      → Holds (Leads w IsType NoFact s) (result_type at x n ps s)
  result_rule at (array of count) n ps s st k ks = refused w _
  result_rule at (function r qs) n ps s st k ks = refused w _
  result_rule at (structure number) n ps s st k ks = refused w _
  result_rule at x n ps s st k ks = numbered_type s (function n (map (λ (p : Parameter). p.shape) ps)) st (k, known_shapes s ps ks)

  part_rule : (p : Part) (n : ℕ) (s : Scopes) → IsState s → IsType n s → IsPart p s → Holds (Leads w IsType NoFact s) (part_type p n s)
  part_rule (star at) n s st k i = by (is_ever_complete s.shapes n)
    where
      by : (b : Bool) → Holds (Leads w IsType NoFact s) (if b then Ok (with_shape (pointer n) s) else refuse Mismatch at)
      by true = numbered_type s (pointer n) st (k, tt)
      by false = refused w _
  part_rule (counted at count) n s st k i = by (is_complete s.shapes n)
    where
      by : (b : Bool) → Holds (Leads w IsType NoFact s) (if b then if_small at (with_shape (array n count) s) else refuse Mismatch at)
      by true = small_type at s (with_shape (array n count) s) (numbered_type s (array n count) st (k, tt))
      by false = refused w _
  part_rule (listed at ps c) n s st k i = result_rule at (shape_of s.shapes n) n ps s st k i.0

  pub type_rule : (ps : List Part) (n : ℕ) (s : Scopes) → IsState s → IsType n s → AreParts ps s → Holds (Leads w IsType NoFact s) (type_of_parts ps n s)
  type_rule [] n s st k i = found w s n st k (λ a c. tt)
  type_rule (p ∷ ps) n s st k i =
      follow w s (type_of_parts ps n s) (part_type p) (type_rule ps n s st k i.1) (λ m t g st2 k2.
      so w t _ (part_rule p m t st2 k2 (part_later s t p g i.0)) (λ n a r before. tt))

  -- Parameters.

  parameter_rule : (at : ℕ) (x : Shape) (n : ℕ) (s : Scopes) → IsState s → IsType n s → shape_of s.shapes n ≡ x → Holds (Leads w IsType NoFact s) (parameter_type at x n s)
  parameter_rule at (array of count) n s st k e =
      numbered_type s (pointer of) st ((st.shapes.parts n (array of count) (known_shape s.shapes n (array of count) k e)).0, tt)
  parameter_rule at (structure number) n s st k e = refused w _
  parameter_rule at (shape.whole kind) n s st k e = found w s n st k (λ a c. tt)
  parameter_rule at (pointer to) n s st k e = found w s n st k (λ a c. tt)
  parameter_rule at x n s st k e = refused w _

  abbrev pub IsParameter : Parameter → Scopes → Type 0
  IsParameter p s = IsKnown s.shapes p.shape

  with_parameter_rule : (at k : ℕ) (n : Option Name) (x : ℕ) (s : Scopes) → IsState s → IsType x s
      → Holds (Passes w IsParameter s) (Ok (record { at = at; name = n; shape = x }, with_parameter n k x s))
  with_parameter_rule at k None x s st i = passed w s (record { at = at; name = None; shape = x }) st i
  with_parameter_rule at k (Some n) x s st i =
      record {
        is = record {
          goes = stay w.last s.shapes st.shapes;
          state = with_name_state s n.bytes (scope.variable k x) st i;
          stays = record { outer = refl; declared = refl; variables = refl; globals = refl; entries = refl; functions = refl };
          known = i;
        };
      }

  pub declared_parameter_rule : (at k : ℕ) (n : Option Name) (x : ℕ) (s : Scopes) → IsState s → IsType x s → Holds (Passes w IsParameter s) (declared_parameter at k n x s)
  declared_parameter_rule at k n x s st i = by n
    where
      typed : Holds (Passes w IsParameter s) (go_on (parameter_type at (shape_of s.shapes x) x s) (λ x s. Ok (record { at = at; name = n; shape = x }, with_parameter n k x s)))
      typed =
          pass_on w s (parameter_type at (shape_of s.shapes x) x s) _ (passing w s _ (parameter_rule at (shape_of s.shapes x) x s st i refl)) (λ y t g st2 k2.
          with_parameter_rule at k n y t st2 k2)

      new : (m : Name) (b : Bool) → Holds (Passes w IsParameter s) (if b then refuse Twice m.at else go_on (parameter_type at (shape_of s.shapes x) x s) (λ x s. Ok (record { at = at; name = n; shape = x }, with_parameter n k x s)))
      new m true = refused w _
      new m false = typed

      by : (o : Option Name) → Holds (Passes w IsParameter s) (if_new_parameter o s (go_on (parameter_type at (shape_of s.shapes x) x s) (λ x s. Ok (record { at = at; name = n; shape = x }, with_parameter n k x s))))
      by None = typed
      by (Some m) = new m (is_some (hindrance m.bytes s))

  -- Type names.

  pub named_whole_rule : (at x : ℕ) (s : Scopes) → IsState s → IsType x s → Holds (Leads w IsType NoFact s) (named_whole at x s)
  named_whole_rule at x s st k = by (not (is_complete s.shapes x) && is_incomplete (shape_of s.shapes x))
    where
      by : (b : Bool) → Holds (Leads w IsType NoFact s) (if b then refuse Mismatch at else Ok (x, s))
      by true = refused w _
      by false = found w s x st k (λ a c. tt)

  pub sized_rule : (at x : ℕ) (s : Scopes) → IsState s → Holds (Leads w IsType (IsComplete w) s) (sized_type at x s)
  sized_rule at x s st = by (is_complete s.shapes x) refl
    where
      by : (b : Bool) → is_complete s.shapes x ≡ b → Holds (Leads w IsType (IsComplete w) s) (if b then Ok (x, s) else refuse Mismatch at)
      by true e = found w s x st (complete_is_known s.shapes x e) (λ a c. complete_on w s.shapes c x e)
      by false e = refused w _

  -- Constants.

  pub constant_rule : {A : Type 0} (P : A → Scopes → Type 0) (at : ℕ) (x : Typed) (go : Kind → ℤ → Typing A) → ((k : Kind) (z : ℤ) → Holds P (go k z))
      → Holds P (with_constant at x go)
  constant_rule P at x go k = by x.value
    where
      value_of : (kind : Kind) (f : Folded) → Holds P (known_or at f (go kind))
      value_of kind (known z) = k kind z
      value_of kind no_constant = refused w _
      value_of kind undefined = refused w _

      by : (v : Value) → Holds P (constant_of at x v go)
      by (integer kind) = value_of kind (folded x.tree)
      by v = refused w _

  pub new_rule : {A : Type 0} (P : A → Scopes → Type 0) (n : Name) (s : Scopes) (go : Typing A) → Holds P go → Holds P (if_new n s go)
  new_rule P n s go k = by (is_some (hindrance n.bytes s))
    where
      by : (b : Bool) → Holds P (if b then refuse Twice n.at else go)
      by true = refused w _
      by false = k

  -- behind a parameter list, whose names go
  pub list_rule : (at : ℕ) (c : Scope) (s : Scopes) (r : Typing (List Parameter)) → IsState s
      → Holds (Passes w (λ ps t. Each (λ (p : Parameter). IsKnown t.shapes p.shape) ps) (entered c s)) r
      → Holds (Leads w IsPart NoFact s) (go_on r (λ ps t. Ok (listed at ps t.inner, left s t)))
  list_rule at c s (Ok r) st k =
      (let p = k.is in
      record {
        is = record {
          goes = p.goes;
          state = record {
            shapes = p.goes.are;
            inner = scope_on w.last s.shapes (r.1).shapes s.inner p.goes st.inner;
            outer = scopes_on w.last s.shapes (r.1).shapes s.outer p.goes st.outer;
          };
          stays = record {
            outer = refl;
            declared = p.stays.declared;
            variables = p.stays.variables;
            globals = p.stays.globals;
            entries = p.stays.entries;
            functions = p.stays.functions;
          };
          names = λ x m e. inl e;
          known = (p.known, p.state.inner);
          holds = λ a c. tt;
        };
      })
  list_rule at c s (Err e) st k = refused w _
