-- A text is split into the tokens that it spells, and into no others.
use Rattle.std.proofs.Common.{◌≡◌, ◌≢◌, ℕ, zero, suc, ◌+◌, ◌<◌, ◌⊎◌, inl, inr, Bool, true, false, IsTrue, not, ◌||◌, if◌then◌else◌, cond, List, [], ◌∷◌, ◌++◌, length, take, drop, slice_get, Option, Some, None, refl, sym, ap, subst, ◌∙◌, append_assoc, length-append, arith}
use Rattle.std.specs.List.{list_all, list_any}
use Rattle.std.specs.Str.{bytes_eq}
use Rattle.std.proofs.Math.Seq.{take-append_seam}
use Rattle.porch_syntax.specs.declared.token.Token.{Token}
use Rattle.porch_syntax.specs.declared.token.Token.TheVariants as token
use Rattle.porch_syntax.specs.declared.lexeme.Lexeme.{Lexeme}
use Rattle.porch_syntax.specs.declared.lexeme.Lexeme.TheVariants.{Fixed, Name, Wrong}
use Rattle.porch_syntax.specs.Token.{is_space, is_name, reserved, IsSpelling, is_whole, Spells}
use Rattle.porch_syntax.specs.Language.{IsFresh, AreNames}
use Rattle.porch_syntax.specs.inside.Lexing.{kind_of, more_of, number_of, with_name, Lexed, behind, lexeme_step, lex}
use Rattle.porch_syntax.proofs.Lists.{append_nothing, append_one}
use Rattle.porch_syntax.proofs.Numbers.{Numbered}
use Rattle.porch_syntax.proofs.Lex.{lex_piece, space_step}
use Rattle.porch_syntax.proofs.Spelled.{both_true, true_both, bytes_same, bytes_own, bytes_other, Unnamed, KindIs, kind_is, kind_for, Piece, piece_for, whole_piece, one_suc, differs}

-- Names in their list.

-- the list goes on with more
abbrev pub Extends : List (List ℕ) → List (List ℕ) → Type 0
Extends ns all = (more : List (List ℕ)) × (all ≡ ns ++ more)

slice_before : (ns more : List (List ℕ)) (x : ℕ) (cs : List ℕ) → slice_get ns x ≡ Some cs → slice_get (ns ++ more) x ≡ Some cs
slice_before [] more x cs h = cc
slice_before (n ∷ ns) more zero cs h = h
slice_before (n ∷ ns) more (suc x) cs h = slice_before ns more x cs h

slice_within : (ns : List (List ℕ)) (x : ℕ) (cs : List ℕ) → slice_get ns x ≡ Some cs → x < length ns
slice_within [] x cs h = cc
slice_within (n ∷ ns) zero cs h = omega arith
slice_within (n ∷ ns) (suc x) cs h = let more = slice_within ns x cs h in omega (arith, more)

slice_last : (ns : List (List ℕ)) (cs : List ℕ) → slice_get (ns ++ cs ∷ []) (length ns) ≡ Some cs
slice_last [] cs = refl
slice_last (n ∷ ns) cs = slice_last ns cs

-- a name that was met
found_at : (n : List ℕ) (ns : List (List ℕ)) (cs : List ℕ) (b : Bool) → bytes_eq cs n ≡ b
    → (list_any (bytes_eq cs) ns ≡ true → slice_get ns (number_of ns cs) ≡ Some cs)
    → (b || list_any (bytes_eq cs) ns) ≡ true → slice_get (n ∷ ns) (cond (not b) (1 + number_of ns cs) 0) ≡ Some cs
found_at n ns cs true e go h = ap Some (sym (bytes_same cs n e))
found_at n ns cs false e go h = subst (λ (k : ℕ). slice_get (n ∷ ns) k ≡ Some cs) (sym (one_suc (number_of ns cs))) (go h)

found : (ns : List (List ℕ)) (cs : List ℕ) → list_any (bytes_eq cs) ns ≡ true → slice_get ns (number_of ns cs) ≡ Some cs
found [] cs h = cc
found (n ∷ ns) cs h = found_at n ns cs (bytes_eq cs n) refl (found ns cs) h

-- a new name
absent_at : (n : List ℕ) (ns : List (List ℕ)) (cs : List ℕ) (b : Bool) → (list_any (bytes_eq cs) ns ≡ false → number_of ns cs ≡ length ns)
    → (b || list_any (bytes_eq cs) ns) ≡ false → cond (not b) (1 + number_of ns cs) 0 ≡ length (n ∷ ns)
absent_at n ns cs true go h = cc
absent_at n ns cs false go h = let more = go h in omega (arith, more)

absent : (ns : List (List ℕ)) (cs : List ℕ) → list_any (bytes_eq cs) ns ≡ false → number_of ns cs ≡ length ns
absent [] cs h = refl
absent (n ∷ ns) cs h = absent_at n ns cs (bytes_eq cs n) (absent ns cs) h

-- what the names are behind one more
record Counted (ns : List (List ℕ)) (cs : List ℕ) (all : List (List ℕ)) : Type 0 where
  names : AreNames all
  extends : Extends ns all
  known : slice_get all (number_of ns cs) ≡ Some cs
  counted : (number_of ns cs < length ns) × (length all ≡ length ns) ⊎ (number_of ns cs ≡ length ns) × (length all ≡ length ns + 1)

fresh_last : (n : List ℕ) (ns : List (List ℕ)) (cs : List ℕ) → IsFresh n ns → n ≢ cs → IsFresh n (ns ++ cs ∷ [])
fresh_last n [] cs h d = (d, tt)
fresh_last n (x ∷ ns) cs h d = (h.0, fresh_last n ns cs h.1 d)

or_none : (a b : Bool) → (a || b) ≡ false → (a ≡ false) × (b ≡ false)
or_none true b h = cc
or_none false b h = (refl, h)

names_last : (ns : List (List ℕ)) (cs : List ℕ) → AreNames ns → IsTrue (is_name cs) → IsFresh cs reserved → list_any (bytes_eq cs) ns ≡ false → AreNames (ns ++ cs ∷ [])
names_last [] cs a h f e = (h, f, tt, tt)
names_last (n ∷ ns) cs a h f e =
    let parts = or_none (bytes_eq cs n) (list_any (bytes_eq cs) ns) e in
    (a.0, a.1, fresh_last n ns cs a.2 (λ q. differs cs n parts.0 (sym q)), names_last ns cs a.3 h f parts.1)

counted_at : (ns : List (List ℕ)) (cs : List ℕ) (b : Bool) → list_any (bytes_eq cs) ns ≡ b → AreNames ns → IsTrue (is_name cs) → IsFresh cs reserved
    → Counted ns cs (if b then ns else ns ++ cs ∷ [])
counted_at ns cs true e a h f =
    let at = found ns cs e in
    record { names = a; extends = ([], sym (append_nothing ns)); known = at; counted = inl (slice_within ns (number_of ns cs) cs at, refl) }
counted_at ns cs false e a h f =
    let new = absent ns cs e in
    let more : length (ns ++ cs ∷ []) ≡ length ns + 1 = simp length-append (omega arith) in
    record {
      names = names_last ns cs a h f e;
      extends = (cs ∷ [], refl);
      known = subst (λ (k : ℕ). slice_get (ns ++ cs ∷ []) k ≡ Some cs) (sym new) (slice_last ns cs);
      counted = inr (new, more);
    }

counted_name : (ns : List (List ℕ)) (cs : List ℕ) → AreNames ns → IsTrue (is_name cs) → IsFresh cs reserved → Counted ns cs (with_name ns cs)
counted_name ns cs a h f = counted_at ns cs (list_any (bytes_eq cs) ns) refl a h f

-- The text that was read spells its tokens.

pub record LexIs (text : List ℕ) (ns : List (List ℕ)) (l : Lexed) : Type 0 where
  pub names : AreNames l.names
  pub extends : Extends ns l.names
  pub spells : Spells l.names text l.tokens
  pub numbered : Numbered (length ns) (length l.names) l.tokens

abbrev pub LexesAs : List ℕ → List (List ℕ) → Option Lexed → Type 0
LexesAs text ns None = Unit {0}
LexesAs text ns (Some l) = LexIs text ns l

spells_space : (names : List (List ℕ)) (c : ℕ) (cs : List ℕ) (ts : List Token) → is_space c ≡ true → Spells names cs ts → Spells names (c ∷ cs) ts
spells_space names c cs [] h s = true_both (is_space c) (list_all is_space cs) h s
spells_space names c cs (t ∷ ts) h s =
    (c ∷ s.0, s.1, s.2, ap (λ (x : List ℕ). c ∷ x) s.3, true_both (is_space c) (list_all is_space s.0) h s.4, s.5, s.6, s.7)

after_space : (c : ℕ) (cs : List ℕ) (ns : List (List ℕ)) (o : Option Lexed) → is_space c ≡ true → LexesAs cs ns o → LexesAs (c ∷ cs) ns o
after_space c cs ns None h g = tt
after_space c cs ns (Some l) h g =
    record { names = g.names; extends = g.extends; spells = spells_space l.names c cs l.tokens h g.spells; numbered = g.numbered }

passes : (k m : ℕ) (t : Token) (ts : List Token) → Unnamed t → Numbered k m ts → Numbered k m (t ∷ ts)
passes k m (token.Name x) ts u h = absurd u
passes k m _ ts u h = h

fixed_next : (l rest : List ℕ) (ns : List (List ℕ)) (t : Token) (o : Option Lexed) → KindIs l (Fixed t) → is_whole l rest ≡ true → LexesAs rest ns o
    → LexesAs (l ++ rest) ns (behind (t ∷ []) o)
fixed_next l rest ns t None k w g = tt
fixed_next l rest ns t (Some r) k w g =
    record {
      names = g.names;
      extends = g.extends;
      spells = ([], l, rest, refl, refl, k.1 r.names, w, g.spells);
      numbered = passes (length ns) (length r.names) t r.tokens k.0 g.numbered;
    }

extends_through : (ns mid all : List (List ℕ)) → Extends ns mid → Extends mid all → Extends ns all
extends_through ns mid all a b = (a.0 ++ b.0, b.1 ∙ ap (λ (x : List (List ℕ)). x ++ b.0) a.1 ∙ append_assoc ns a.0 b.0)

known_in : (mid all : List (List ℕ)) (x : ℕ) (cs : List ℕ) → Extends mid all → slice_get mid x ≡ Some cs → slice_get all x ≡ Some cs
known_in mid all x cs e h = subst (λ (y : List (List ℕ)). slice_get y x ≡ Some cs) (sym e.1) (slice_before mid e.0 x cs h)

counted_next : (ns mid : List (List ℕ)) (x m : ℕ) (ts : List Token)
    → ((x < length ns) × (length mid ≡ length ns) ⊎ (x ≡ length ns) × (length mid ≡ length ns + 1))
    → Numbered (length mid) m ts → Numbered (length ns) m (token.Name x ∷ ts)
counted_next ns mid x m ts (inl h) n = inl (h.0, subst (λ (k : ℕ). Numbered k m ts) h.1 n)
counted_next ns mid x m ts (inr h) n = inr (h.0, subst (λ (k : ℕ). Numbered k m ts) h.1 n)

name_next : (l rest : List ℕ) (ns mid : List (List ℕ)) (o : Option Lexed) → Counted ns l mid → is_whole l rest ≡ true → LexesAs rest mid o
    → LexesAs (l ++ rest) ns (behind (token.Name (number_of ns l) ∷ []) o)
name_next l rest ns mid None c w g = tt
name_next l rest ns mid (Some r) c w g =
    record {
      names = g.names;
      extends = extends_through ns mid r.names c.extends g.extends;
      spells = ([], l, rest, refl, refl, known_in mid r.names (number_of ns l) l g.extends c.known, w, g.spells);
      numbered = counted_next ns mid (number_of ns l) (length r.names) r.tokens c.counted g.numbered;
    }

piece_next : (l rest : List ℕ) (ns : List (List ℕ)) (k : Lexeme) (go : List (List ℕ) → Option Lexed) → AreNames ns → KindIs l k → is_whole l rest ≡ true
    → ((names : List (List ℕ)) → AreNames names → LexesAs rest names (go names)) → LexesAs (l ++ rest) ns (lexeme_step k l ns go)
piece_next l rest ns (Fixed t) go a k w g = fixed_next l rest ns t (go ns) k w (g ns a)
piece_next l rest ns Name go a k w g =
    let c = counted_name ns l a k.0 k.1 in
    name_next l rest ns (with_name ns l) (go (with_name ns l)) c w (g (with_name ns l) c.names)
piece_next l rest ns Wrong go a k w g = tt

take_drop : (k : ℕ) (cs : List ℕ) → take k cs ++ drop k cs ≡ cs
take_drop zero cs = refl
take_drop (suc k) [] = refl
take_drop (suc k) (c ∷ cs) = ap (λ (x : List ℕ). c ∷ x) (take_drop k cs)

char_next : (c : ℕ) (cs : List ℕ) (ns : List (List ℕ)) (b : Bool) → is_space c ≡ b → AreNames ns
    → ((k : ℕ) (names : List (List ℕ)) → AreNames names → LexesAs (drop k cs) names (lex cs k names))
    → LexesAs (c ∷ cs) ns (if b then lex cs 0 ns else lexeme_step (kind_of (c ∷ take (more_of c cs) cs)) (c ∷ take (more_of c cs) cs) ns (lex cs (more_of c cs)))
char_next c cs ns true e a go = after_space c cs ns (lex cs 0 ns) e (go 0 ns a)
char_next c cs ns false e a go =
    subst (λ (x : List ℕ). LexesAs (c ∷ x) ns (lexeme_step (kind_of (c ∷ take (more_of c cs) cs)) (c ∷ take (more_of c cs) cs) ns (lex cs (more_of c cs))))
    (take_drop (more_of c cs) cs)
    (piece_next (c ∷ take (more_of c cs) cs) (drop (more_of c cs) cs) ns (kind_of (c ∷ take (more_of c cs) cs)) (lex cs (more_of c cs)) a
    (kind_is (c ∷ take (more_of c cs) cs)) (whole_piece c cs) (go (more_of c cs)))

pub lexes : (text : List ℕ) (k : ℕ) (ns : List (List ℕ)) → AreNames ns → LexesAs (drop k text) ns (lex text k ns)
lexes [] zero ns a = record { names = a; extends = ([], sym (append_nothing ns)); spells = refl; numbered = refl }
lexes [] (suc k) ns a = record { names = a; extends = ([], sym (append_nothing ns)); spells = refl; numbered = refl }
lexes (c ∷ cs) (suc k) ns a = lexes cs k ns a
lexes (c ∷ cs) zero ns a = char_next c cs ns (is_space c) refl a (lexes cs)

-- And no other tokens.

fresh_apart : (n : List ℕ) (ns : List (List ℕ)) (x : ℕ) (cs : List ℕ) → IsFresh n ns → slice_get ns x ≡ Some cs → n ≢ cs
fresh_apart n [] x cs f e q = cc
fresh_apart n (m ∷ ns) zero cs f e q = let same : m ≡ cs = cc in f.0 (q ∙ sym same)
fresh_apart n (m ∷ ns) (suc x) cs f e q = fresh_apart n ns x cs f.1 e q

met : (ns more : List (List ℕ)) (x : ℕ) (cs : List ℕ) → AreNames (ns ++ more) → x < length ns → slice_get (ns ++ more) x ≡ Some cs
    → (number_of ns cs ≡ x) × (list_any (bytes_eq cs) ns ≡ true)
met [] more x cs a h e = absurd (omega arith)
met (n ∷ ns) more zero cs a h e =
    let same : n ≡ cs = cc in
    let own : bytes_eq cs n ≡ true = ap (bytes_eq cs) same ∙ bytes_own cs in
    (ap (λ (b : Bool). cond (not b) (1 + number_of ns cs) 0) own, ap (λ (b : Bool). b || list_any (bytes_eq cs) ns) own)
met (n ∷ ns) more (suc x) cs a h e =
    let r = met ns more x cs a.3 (omega arith) e in
    let apart : bytes_eq cs n ≡ false = bytes_other cs n (λ q. fresh_apart n (ns ++ more) x cs a.2 e (sym q)) in
    (ap (λ (b : Bool). cond (not b) (1 + number_of ns cs) 0) apart ∙ omega (arith, r.0), ap (λ (b : Bool). b || list_any (bytes_eq cs) ns) apart ∙ r.1)

new : (ns more : List (List ℕ)) (cs : List ℕ) → AreNames (ns ++ more) → slice_get (ns ++ more) (length ns) ≡ Some cs
    → (others : List (List ℕ)) × (list_any (bytes_eq cs) ns ≡ false) × (more ≡ cs ∷ others)
new [] [] cs a e = cc
new [] (m ∷ more) cs a e = let same : m ≡ cs = cc in (more, refl, ap (λ (x : List ℕ). x ∷ more) same)
new (n ∷ ns) more cs a e =
    let r = new ns more cs a.3 e in
    let apart : bytes_eq cs n ≡ false = bytes_other cs n (λ q. fresh_apart n (ns ++ more) (length ns) cs a.2 e (sym q)) in
    (r.0, ap (λ (b : Bool). b || list_any (bytes_eq cs) ns) apart ∙ r.1, r.2)

drop_seam : (cs rest : List ℕ) → drop (length cs) (cs ++ rest) ≡ rest
drop_seam [] rest = refl
drop_seam (c ∷ cs) rest = drop_seam cs rest

at_piece : (cs rest : List ℕ) (ns : List (List ℕ)) → Piece cs rest → lex (cs ++ rest) 0 ns ≡ lexeme_step (kind_of cs) cs ns (lex rest 0)
at_piece cs rest ns p =
    lex_piece ns (cs ++ rest) p.some p.seen
    ∙ ap (λ (k : ℕ). lexeme_step (kind_of (take k (cs ++ rest))) (take k (cs ++ rest)) ns (lex (drop k (cs ++ rest)) 0)) p.long
    ∙ ap (λ (l : List ℕ). lexeme_step (kind_of l) l ns (lex (drop (length cs) (cs ++ rest)) 0)) (take-append_seam cs rest)
    ∙ ap (λ (r : List ℕ). lexeme_step (kind_of cs) cs ns (lex r 0)) (drop_seam cs rest)

gap_gone : (gap text : List ℕ) (ns : List (List ℕ)) → list_all is_space gap ≡ true → lex (gap ++ text) 0 ns ≡ lex text 0 ns
gap_gone [] text ns h = refl
gap_gone (c ∷ gap) text ns h =
    let parts = both_true (is_space c) (list_all is_space gap) h in
    space_step (is_space c) (lex (gap ++ text) 0 ns) _ parts.0 ∙ gap_gone gap text ns parts.1

abbrev pub Fits : List Token → Type 0
Fits ts = (text : List ℕ) (ns more all : List (List ℕ)) → all ≡ ns ++ more → AreNames all → Spells all text ts → Numbered (length ns) (length all) ts
    → lex text 0 ns ≡ Some (record { tokens = ts; names = all })

no_more : (ns more all : List (List ℕ)) → all ≡ ns ++ more → length ns ≡ length all → ns ≡ all
no_more ns [] all e h = sym (e ∙ append_nothing ns)
no_more ns (m ∷ more) all e h =
    let long : length all ≡ length ns + length (m ∷ more) = ap length e ∙ length-append ns (m ∷ more) in
    absurd (omega (arith, long))

nothing_fits : Fits []
nothing_fits text ns more all e a s n =
    ap (λ (x : List ℕ). lex x 0 ns) (sym (append_nothing text)) ∙ gap_gone text [] ns s
    ∙ ap (λ (x : List (List ℕ)). Some (record { tokens = []; names = x })) (no_more ns more all e n)

not_passed : (k m : ℕ) (t : Token) (ts : List Token) → Unnamed t → Numbered k m (t ∷ ts) → Numbered k m ts
not_passed k m (token.Name x) ts u h = absurd u
not_passed k m _ ts u h = h

fixed_fits : (t : Token) (ts : List Token) → Unnamed t → ((all : List (List ℕ)) (cs : List ℕ) → AreNames all → IsSpelling all t cs → kind_of cs ≡ Fixed t)
    → Fits ts → Fits (t ∷ ts)
fixed_fits t ts u f go text ns more all e a s n =
    let p = piece_for all t s.1 s.2 a s.5 s.6 in
    ap (λ (x : List ℕ). lex x 0 ns) s.3 ∙ gap_gone s.0 (s.1 ++ s.2) ns s.4 ∙ at_piece s.1 s.2 ns p
    ∙ ap (λ (k : Lexeme). lexeme_step k s.1 ns (lex s.2 0)) (f all s.1 a s.5)
    ∙ ap (behind (t ∷ [])) (go s.2 ns more all e a s.7 (not_passed (length ns) (length all) t ts u n))

name_goes : (x : ℕ) (ts : List Token) (cs rest : List ℕ) (ns more all : List (List ℕ)) → Fits ts → all ≡ ns ++ more → AreNames all → slice_get all x ≡ Some cs
    → Spells all rest ts → Numbered (length ns) (length all) (token.Name x ∷ ts)
    → behind (token.Name (number_of ns cs) ∷ []) (lex rest 0 (with_name ns cs)) ≡ Some (record { tokens = token.Name x ∷ ts; names = all })
name_goes x ts cs rest ns more all go e a h s (inl n) =
    let r = met ns more x cs (subst AreNames e a) n.0 (subst (λ (y : List (List ℕ)). slice_get y x ≡ Some cs) e h) in
    ap (λ (b : Bool). behind (token.Name (number_of ns cs) ∷ []) (lex rest 0 (if b then ns else ns ++ cs ∷ []))) r.1
    ∙ ap (λ (k : ℕ). behind (token.Name k ∷ []) (lex rest 0 ns)) r.0
    ∙ ap (behind (token.Name x ∷ [])) (go rest ns more all e a s n.1)
name_goes x ts cs rest ns more all go e a h s (inr n) =
    let there : slice_get (ns ++ more) (length ns) ≡ Some cs = subst (λ (y : List (List ℕ)). slice_get y (length ns) ≡ Some cs) e (subst (λ (k : ℕ). slice_get all k ≡ Some cs) n.0 h) in
    let r = new ns more cs (subst AreNames e a) there in
    let long : length ns + 1 ≡ length (ns ++ cs ∷ []) = simp length-append (omega arith) in
    let whole : all ≡ (ns ++ cs ∷ []) ++ r.0 = e ∙ ap (λ (y : List (List ℕ)). ns ++ y) r.2 ∙ sym (append_one ns cs r.0) in
    ap (λ (b : Bool). behind (token.Name (number_of ns cs) ∷ []) (lex rest 0 (if b then ns else ns ++ cs ∷ []))) r.1
    ∙ ap (λ (k : ℕ). behind (token.Name k ∷ []) (lex rest 0 (ns ++ cs ∷ []))) (absent ns cs r.1 ∙ sym n.0)
    ∙ ap (behind (token.Name x ∷ [])) (go rest (ns ++ cs ∷ []) r.0 all whole a s (subst (λ (k : ℕ). Numbered k (length all) ts) long n.1))

name_fits : (x : ℕ) (ts : List Token) → Fits ts → Fits (token.Name x ∷ ts)
name_fits x ts go text ns more all e a s n =
    let p = piece_for all (token.Name x) s.1 s.2 a s.5 s.6 in
    ap (λ (y : List ℕ). lex y 0 ns) s.3 ∙ gap_gone s.0 (s.1 ++ s.2) ns s.4 ∙ at_piece s.1 s.2 ns p
    ∙ ap (λ (k : Lexeme). lexeme_step k s.1 ns (lex s.2 0)) (kind_for all (token.Name x) s.1 a s.5)
    ∙ name_goes x ts s.1 s.2 ns more all go e a s.5 s.7 n

pub fits : (ts : List Token) → Fits ts
fits [] = nothing_fits
fits (token.Name x ∷ ts) = name_fits x ts (fits ts)
fits (t ∷ ts) = fixed_fits t ts tt (λ all cs a s. kind_for all t cs a s) (fits ts)
