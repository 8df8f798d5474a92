-- A keyword is found by its first letter.
use Rattle.std.proofs.Common.{◌≡◌, ℕ, ◌==◌, Bool, true, false, if◌then◌else◌, List, ◌∷◌, Option, None, refl, sym, subst}
use Rattle.porch_tree.specs.declared.word.Keyword.{Keyword}
use Rattle.porch_lex.specs.Lexemes.{keyword_of}
use Rattle.porch_lex.specs.inside.Keywords.{keyword_by_letter, keyword_a, keyword_b, keyword_c, keyword_d, keyword_e, keyword_f, keyword_g, keyword_i, keyword_l, keyword_r, keyword_s, keyword_t, keyword_u, keyword_v, keyword_w}
use Rattle.porch_lex.proofs.Tests.{code_same}

at_test : (b : Bool) (x y z : Option Keyword) → (b ≡ true → x ≡ z) → (b ≡ false → y ≡ z) → (if b then x else y) ≡ z
at_test true x y z f g = f refl
at_test false x y z f g = g refl

at_letter : (k c : ℕ) (cs : List ℕ) (x y : Option Keyword) → x ≡ keyword_of (k ∷ cs) → ((c == k) ≡ false → y ≡ keyword_of (c ∷ cs)) → (if c == k then x else y) ≡ keyword_of (c ∷ cs)
at_letter k c cs x y e g =
    at_test (c == k) x y (keyword_of (c ∷ cs)) (λ h. subst (λ (v : ℕ). x ≡ keyword_of (v ∷ cs)) (sym (code_same c k h)) e) g

none : (c : ℕ) (cs : List ℕ) → (c == 97) ≡ false → (c == 98) ≡ false → (c == 99) ≡ false → (c == 100) ≡ false → (c == 101) ≡ false → (c == 102) ≡ false → (c == 103) ≡ false → (c == 105) ≡ false → (c == 108) ≡ false → (c == 114) ≡ false → (c == 115) ≡ false → (c == 116) ≡ false → (c == 117) ≡ false → (c == 118) ≡ false → (c == 119) ≡ false → None ≡ keyword_of (c ∷ cs)
none c cs na nb nc nd ne nf ng ni nl nr ns nt nu nv nw = rw (na, nb, nc, nd, ne, nf, ng, ni, nl, nr, ns, nt, nu, nv, nw) refl

pub by_letter : (c : ℕ) (cs : List ℕ) → keyword_by_letter c cs ≡ keyword_of (c ∷ cs)
by_letter c cs =
    at_letter 97 c cs (keyword_a cs) _ refl (λ na.
    at_letter 98 c cs (keyword_b cs) _ refl (λ nb.
    at_letter 99 c cs (keyword_c cs) _ refl (λ nc.
    at_letter 100 c cs (keyword_d cs) _ refl (λ nd.
    at_letter 101 c cs (keyword_e cs) _ refl (λ ne.
    at_letter 102 c cs (keyword_f cs) _ refl (λ nf.
    at_letter 103 c cs (keyword_g cs) _ refl (λ ng.
    at_letter 105 c cs (keyword_i cs) _ refl (λ ni.
    at_letter 108 c cs (keyword_l cs) _ refl (λ nl.
    at_letter 114 c cs (keyword_r cs) _ refl (λ nr.
    at_letter 115 c cs (keyword_s cs) _ refl (λ ns.
    at_letter 116 c cs (keyword_t cs) _ refl (λ nt.
    at_letter 117 c cs (keyword_u cs) _ refl (λ nu.
    at_letter 118 c cs (keyword_v cs) _ refl (λ nv.
    at_letter 119 c cs (keyword_w cs) _ refl (λ nw.
    none c cs na nb nc nd ne nf ng ni nl nr ns nt nu nv nw)))))))))))))))
