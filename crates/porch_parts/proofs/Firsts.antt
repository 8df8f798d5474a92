-- The first tokens of expressions, bases and declarators.
use Rattle.std.proofs.Common.{◌≡◌, ◌≢◌, ℕ, zero, suc, Bool, true, false, ◌&&◌, ◌||◌, List, [], ◌∷◌, Option, Some, None, refl, sym, ap, subst, ◌∙◌, Contains}
use Rattle.std.specs.Str.{bytes_eq}
use Rattle.std.specs.Bool.{Decides}
use Rattle.std.specs.Cmp.{IsEquivalence}
use Rattle.std.proofs.lemmas.Cmp.{nat_list_eq_equiv}
use Rattle.std.proofs.lemmas.Slice.Eq.{bytes_eq-Decides}
use Rattle.std.proofs.lemmas.Map.Views.{list_any-from_Contains, Contains-from_any}
use Rattle.porch_tree.specs.declared.word.Keyword.{Keyword}
use Rattle.porch_tree.specs.declared.word.Keyword.TheVariants as key
use Rattle.porch_tree.specs.declared.word.Word.{Word}
use Rattle.porch_tree.specs.declared.word.Word.TheVariants as word
use Rattle.porch_tree.specs.declared.tree.Prefix.{Prefix}
use Rattle.porch_tree.specs.declared.tree.Prefix.TheVariants as prefix_variant
use Rattle.porch_tree.specs.declared.tree.TagSort.{TagSort}
use Rattle.porch_tree.specs.declared.tree.TagSort.TheVariants as tag_sort
use Rattle.porch_tree.specs.Words.{prefix_word, tag_keyword}
use Rattle.porch_tree.specs.Mirror.{Name, Expr, name, whole, character, texts, nested, suffixed, prefixed, size_of, cast, row, conditional, assign, sequence, Base, kind, void, typedef_name, tag, structure, enumeration, Declarator, param, Params, with_param}
use Rattle.porch_tree.specs.Names.{first_name, IsPlain, ReadsBase}
use Rattle.porch_tree.specs.Formed.{IsBase, is_kind, is_kind_word, BeginsParams}
use Rattle.porch_tree.specs.Grammar.{AreMatched, is_name}
use Rattle.porch_tree.specs.Pieces.{Spelled, Piece, const_pieces, piece, behind_consts, spelt, expr_pieces, base_pieces}
use Rattle.porch_parts.specs.declared.sign.Sign.{Sign}
use Rattle.porch_parts.specs.declared.sign.Sign.TheVariants as sign
use Rattle.porch_parts.specs.Signs.{sign_of, key_sign}
use Rattle.porch_parts.specs.Types.{begins_params}
use Rattle.porch_parts.specs.Parts.{names_type, begins_base, begins}
use Rattle.porch_parts.proofs.KindWords.{decided, kind_words, kind_only, AreKindWords}

bytes_same : (a b : List ℕ) → bytes_eq a b ≡ true → a ≡ b
bytes_same a b h = let d : Decides (bytes_eq a b) (a ≡ b) = bytes_eq-Decides a b in d.0 h

type_known : (types : List (List ℕ)) (n : List ℕ) → names_type types n ≡ true → Contains types n
type_known types n h = Contains-from_any bytes_same n types h

bytes_equivalence : IsEquivalence bytes_eq
bytes_equivalence = nat_list_eq_equiv

known_type : (types : List (List ℕ)) (n : List ℕ) → Contains types n → names_type types n ≡ true
known_type types n h = list_any-from_Contains bytes_equivalence n types h

unknown_type : (types : List (List ℕ)) (n : List ℕ) → (Contains types n → ⊥) → names_type types n ≡ false
unknown_type types n h = decided (names_type types n) (λ k. h (type_known types n k))

-- It may begin an expression, and no name does.
abbrev opens : Sign → Bool
opens sign.Open = true
opens sign.Star = true
opens sign.Other = true
opens s = false

-- the first token of an expression that begins with this name, or with none
abbrev pub IsFirst : Option (List ℕ) → Spelled → Type 0
IsFirst None t = (opens (sign_of t.word) ≡ true) × (is_name t.word ≡ false)
IsFirst (Some n) t = (t.word ≡ word.Name) × (t.bytes ≡ n)

abbrev pub IsBegun : Option (List ℕ) → List Spelled → Type 0
IsBegun o [] = ⊥
IsBegun o (t ∷ ts) = IsFirst o t

-- the first of these tokens has a sign that passes this test
abbrev pub IsLed : (Sign → Bool) → List Spelled → Type 0
IsLed test [] = ⊥
IsLed test (t ∷ ts) = test (sign_of t.word) ≡ true

abbrev pub Leads : (Sign → Bool) → List Piece → Type 0
Leads test [] = ⊥
Leads test (p ∷ ps) = test (sign_of p.word) ≡ true

pub led : (test : Sign → Bool) (ps : List Piece) (ts : List Spelled) → Leads test ps → AreMatched ts ps → IsLed test ts
led test [] ts l h = absurd l
led test (p ∷ ps) [] l h = absurd h
led test (p ∷ ps) (t ∷ ts) l h = subst (λ w. test (sign_of w) ≡ true) (sym h.0.word) l

first_open : (p : Piece) (ps : List Piece) (ts : List Spelled) → AreMatched ts (p ∷ ps) → opens (sign_of p.word) ≡ true → is_name p.word ≡ false → IsBegun None ts
first_open p ps [] h a b = absurd h
first_open p ps (t ∷ ts) h a b = (subst (λ w. opens (sign_of w) ≡ true) (sym h.0.word) a, subst (λ w. is_name w ≡ false) (sym h.0.word) b)

prefix_opens : (p : Prefix) → opens (sign_of (prefix_word p)) ≡ true
prefix_opens prefix_variant.Increase = refl
prefix_opens p = refl

prefix_unnamed : (p : Prefix) → is_name (prefix_word p) ≡ false
prefix_unnamed prefix_variant.Increase = refl
prefix_unnamed p = refl

module _ (i : Bool) where
  first_named : (n : Name) (ps : List Piece) (d : ℕ) (ts : List Spelled) → AreMatched ts (expr_pieces i (name n) d ps) → IsBegun (Some n.bytes) ts
  first_named n ps d [] h = absurd h
  first_named n ps d (t ∷ ts) h = (h.0.word, h.0.bytes)

  pub begun : (e : Expr) (d : ℕ) (ps : List Piece) (ts : List Spelled) → AreMatched ts (expr_pieces i e d ps) → IsBegun (first_name e) ts
  begun (name n) d ps ts h = first_named n ps d ts h
  begun (whole n) d ps ts h = first_open _ _ ts h refl refl
  begun (character n) d ps ts h = first_open _ _ ts h refl refl
  begun (texts n ns) d ps ts h = first_open _ _ ts h refl refl
  begun (nested k e) d ps ts h = first_open _ _ ts h refl refl
  begun (suffixed e xs) d ps ts h = begun e d _ ts h
  begun (prefixed k p e) d ps ts h = first_open _ _ ts h (prefix_opens p) (prefix_unnamed p)
  begun (size_of k t) d ps ts h = first_open _ _ ts h refl refl
  begun (cast k t e) d ps ts h = first_open _ _ ts h refl refl
  begun (row l e os) d ps ts h = begun e d _ ts h
  begun (conditional e a b) d ps ts h = begun e (suc d) _ ts h
  begun (assign a x e) d ps ts h = begun x (suc d) _ ts h
  begun (sequence e es) d ps ts h = begun e d _ ts h

module _ (types : List (List ℕ)) where
  -- whether a type can begin with the first of these tokens
  abbrev pub IsStart : Bool → List Spelled → Type 0
  IsStart b [] = ⊥
  IsStart b (t ∷ ts) = begins types t.word t ≡ b

  open_starts : (s : Sign) → opens s ≡ true → begins_base s ≡ false
  open_starts sign.Open h = refl
  open_starts sign.Star h = refl
  open_starts sign.Other h = refl
  open_starts s h = cc

  plain_start : (o : Option (List ℕ)) (t : Spelled) → IsPlain types o → IsFirst o t → begins types t.word t ≡ false
  plain_start None t p h = ap (λ b. b || (is_name t.word && names_type types t.bytes)) (open_starts (sign_of t.word) h.0) ∙ ap (λ b. b && names_type types t.bytes) h.1
  plain_start (Some n) t p h =
      ap (λ w. begins types w t) h.0 ∙ ap (names_type types) h.1 ∙ unknown_type types n p

  pub plain_starts : (o : Option (List ℕ)) (ts : List Spelled) → IsPlain types o → IsBegun o ts → IsStart false ts
  plain_starts o [] p h = absurd h
  plain_starts o (t ∷ ts) p h = plain_start o t p h

  base_start : (t : Spelled) → begins_base (sign_of t.word) ≡ true → begins types t.word t ≡ true
  base_start t h = ap (λ b. b || (is_name t.word && names_type types t.bytes)) h

  pub led_starts : (ts : List Spelled) → IsLed begins_base ts → IsStart true ts
  led_starts [] h = absurd h
  led_starts (t ∷ ts) h = base_start t h

  named_starts : (t : Spelled) (n : Name) → t.word ≡ word.Name → t.bytes ≡ n.bytes → Contains types n.bytes → begins types t.word t ≡ true
  named_starts t n w b h = ap (λ v. begins types v t) w ∙ ap (names_type types) b ∙ known_type types n.bytes h

  kind_key : (k : Keyword) → is_kind_word k ≡ true → begins_base (key_sign k) ≡ true
  kind_key key.Char h = refl
  kind_key key.Short h = refl
  kind_key key.Int h = refl
  kind_key key.Long h = refl
  kind_key key.Signed h = refl
  kind_key key.Unsigned h = refl
  kind_key key.Const h = refl
  kind_key k h = cc

  tag_begins : (s : TagSort) → begins_base (key_sign (tag_keyword s)) ≡ true
  tag_begins tag_sort.Struct = refl
  tag_begins s = refl

  module _ (i : Bool) where
    -- a base begins with a word that isn't a name, or is a typedef name
    kind_leads : (at : ℕ) (ks : List Keyword) (d : ℕ) (ps : List Piece) → is_kind ks ≡ true → AreKindWords ks → Leads begins_base (base_pieces i (kind at ks) d ps)
    kind_leads at [] d ps h a = absurd (none (kind_only [] h))
      where
        none : true ≡ false → ⊥
        none h = cc
    kind_leads at (k ∷ ks) d ps h a = kind_key k a.0

    front_leads : (test : Sign → Bool) (n at d : ℕ) (w : Word) (ps : List Piece) → test sign.Const ≡ true → test (sign_of w) ≡ true
        → Leads test (const_pieces i n (Some at) d (piece i (behind_consts n at) w d ∷ ps))
    front_leads test zero at d w ps c h = h
    front_leads test (suc n) at d w ps c h = c

    name_starts : (n : Name) (before at d : ℕ) (ps : List Piece) (ts : List Spelled) → Contains types n.bytes
        → AreMatched ts (const_pieces i before (Some at) d (spelt i word.Name n d ∷ ps)) → IsStart true ts
    name_starts n zero at d ps [] y h = absurd h
    name_starts n zero at d ps (t ∷ ts) y h = named_starts t n h.0.word h.0.bytes y
    name_starts n (suc m) at d ps ts y h = led_starts ts (led begins_base _ ts refl h)

    pub base_starts : (b : Base) (d : ℕ) (ps : List Piece) (ts : List Spelled) → IsBase b → ReadsBase types b → AreMatched ts (base_pieces i b d ps) → IsStart true ts
    base_starts (kind at ks) d ps ts w y h = led_starts ts (led begins_base _ ts (kind_leads at ks d ps w (kind_words ks w)) h)
    base_starts (void at c) d ps ts w y h = led_starts ts (led begins_base _ ts (front_leads begins_base c.before at d (word.Key key.Void) _ refl refl) h)
    base_starts (typedef_name at n c) d ps ts w y h = name_starts n c.before at d _ ts y h
    base_starts (tag at s n c) d ps ts w y h = led_starts ts (led begins_base _ ts (front_leads begins_base c.before at d (word.Key (tag_keyword s)) _ refl (tag_begins s)) h)
    base_starts (structure at n fs c) d ps ts w y h = led_starts ts (led begins_base _ ts (front_leads begins_base c.before at d (word.Key key.Struct) _ refl refl) h)
    base_starts (enumeration at n cs c) d ps ts w y h = led_starts ts (led begins_base _ ts (front_leads begins_base c.before at d (word.Key key.Enum) _ refl refl) h)

    begins_both : (s : Sign) → begins_base s ≡ true → begins_params s ≡ true
    begins_both sign.Const h = refl
    begins_both (sign.Kind k) h = refl
    begins_both sign.Void h = refl
    begins_both (sign.Tag s) h = refl
    begins_both s h = cc

    leads_both : (ps : List Piece) → Leads begins_base ps → Leads begins_params ps
    leads_both [] h = absurd h
    leads_both (p ∷ ps) h = begins_both (sign_of p.word) h

    -- the first parameter of a list where a core may stand
    pub params_lead : (b : Base) (x : Declarator) (xs : Params) (d : ℕ) (ps : List Piece) → IsBase b → BeginsParams (with_param (param b x) xs) → Leads begins_params (base_pieces i b d ps)
    params_lead (kind at ks) x xs d ps w g = leads_both _ (kind_leads at ks d ps w (kind_words ks w))
    params_lead (void at c) x xs d ps w g = front_leads begins_params c.before at d (word.Key key.Void) _ refl refl
    params_lead (typedef_name at n c) x xs d ps w g = const_leads n c.before at d _ g
      where
        const_leads : (n : Name) (before at d : ℕ) (ps : List Piece) → before ≢ 0 → Leads begins_params (const_pieces i before (Some at) d (spelt i word.Name n d ∷ ps))
        const_leads n zero at d ps g = absurd (g refl)
        const_leads n (suc m) at d ps g = refl
    params_lead (tag at s n c) x xs d ps w g = front_leads begins_params c.before at d (word.Key (tag_keyword s)) _ refl (begins_both (key_sign (tag_keyword s)) (tag_begins s))
    params_lead (structure at n fs c) x xs d ps w g = front_leads begins_params c.before at d (word.Key key.Struct) _ refl refl
    params_lead (enumeration at n cs c) x xs d ps w g = front_leads begins_params c.before at d (word.Key key.Enum) _ refl refl

abbrev pub is_bracket : Sign → Bool
is_bracket sign.CloseBracket = true
is_bracket s = false

-- An expression doesn't begin with `]`.
no_bracket : (s : Sign) → opens s ≡ true → is_bracket s ≡ false
no_bracket sign.Open h = refl
no_bracket sign.Star h = refl
no_bracket sign.Other h = refl
no_bracket s h = cc

no_bracket_first : (o : Option (List ℕ)) (t : Spelled) → IsFirst o t → is_bracket (sign_of t.word) ≡ false
no_bracket_first None t h = no_bracket (sign_of t.word) h.0
no_bracket_first (Some n) t h = ap (λ w. is_bracket (sign_of w)) h.0

abbrev pub IsOther : (Sign → Bool) → List Spelled → Type 0
IsOther test [] = ⊥
IsOther test (t ∷ ts) = test (sign_of t.word) ≡ false

pub no_bracket_begun : (o : Option (List ℕ)) (ts : List Spelled) → IsBegun o ts → IsOther is_bracket ts
no_bracket_begun o [] h = absurd h
no_bracket_begun o (t ∷ ts) h = no_bracket_first o t h
