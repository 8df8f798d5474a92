-- A text, byte by byte.
use Rattle.std.proofs.Common.{◌≡◌, ◌≢◌, ℕ, suc, ◌+◌, ◌-◌, ◌<◌, Bool, false, nat_eq, List, [], ◌∷◌, ◌++◌, Result, Ok, Err, refl, inl, inr, sym, ap, ◌∙◌, append_assoc, arith}
use Rattle.std.proofs.lemmas.Bool.{eq-eqb}
use Rattle.std.proofs.lemmas.Bool.Decides.{eqb_tells}
use Rattle.std.proofs.lemmas.List.{append-nil}
use Rattle.std.specs.Prelude.{if◌then◌else◌}
use Rattle.porch_types.specs.declared.shapes.Ty.{Ty}
use Rattle.porch_values.specs.declared.acts.Act.{Act}
use Rattle.porch_objects.specs.Meaning.{byte_of}
use Rattle.porch_objects.specs.Store.{Home, Value, number, null, pointer, past, indeterminate, Store, seen, leaf_at}
use Rattle.porch_objects.specs.Pointers.{if_there, if_number, with_byte, text_from}
use Rattle.porch_live.specs.inside.Texts.{byte_in, with_bytes}

differs : (a b : ℕ) → a ≢ b → nat_eq a b ≡ false
differs a b other = elim (eqb_tells a b) [ inl w ↦ absurd (other w.1) | inr w ↦ w.0 ]

-- what comes of one byte, and of the text after it
abbrev pub by_byte : List Ty → ℕ → Result ℕ Act → Result (List ℕ) Act → Result (List ℕ) Act
by_byte types pointee (Ok byte) rest = if nat_eq byte 0 then Ok [] else with_byte types pointee byte rest
by_byte types pointee (Err a) rest = Err a

module _ (types : List Ty) (pointee : ℕ) (s : Store) (home : Home) where
  one_byte : (v : Value) (rest : Result (List ℕ) Act)
      → if_there v (λ v. if_number v (λ z. if nat_eq (byte_of z) 0 then Ok [] else with_byte types pointee (byte_of z) rest))
      ≡ by_byte types pointee (byte_in v) rest
  one_byte (number z) rest = refl
  one_byte null rest = refl
  one_byte (pointer home leaf) rest = refl
  one_byte (past home leaf until) rest = refl
  one_byte indeterminate rest = refl

  -- the text from a leaf on, of which there is one more
  text_more : (leaf more : ℕ) (byte : Result ℕ Act) → byte ≡ byte_in (seen s (leaf_at s home leaf))
      → text_from types pointee s home leaf (suc more) ≡ by_byte types pointee byte (text_from types pointee s home (leaf + 1) more)
  text_more leaf more byte is =
      one_byte (seen s (leaf_at s home leaf)) (text_from types pointee s home (leaf + 1) more)
      ∙ ap (λ b. by_byte types pointee b (text_from types pointee s home (leaf + 1) more)) (sym is)

  abbrev picked : Bool → ℕ → Result (List ℕ) Act → Result (List ℕ) Act
  picked b byte rest = if b then Ok [] else with_byte types pointee byte rest

  none_before : (r : Result (List ℕ) Act) → r ≡ with_bytes [] r
  none_before (Ok bs) = refl
  none_before (Err a) = refl

  -- before the first byte
  pub at_start : (leaf count : ℕ) (bytes : List ℕ) → bytes ≡ []
      → text_from types pointee s home leaf count ≡ with_bytes bytes (text_from types pointee s home (leaf + 0) (count - 0))
  at_start leaf count bytes none =
      none_before (text_from types pointee s home leaf count)
      ∙ ap (λ bs. with_bytes bs (text_from types pointee s home leaf count)) (sym none)
      ∙ ap (λ n. with_bytes bytes (text_from types pointee s home n count)) (let same : leaf ≡ leaf + 0 = omega arith in same)
      ∙ ap (λ n. with_bytes bytes (text_from types pointee s home (leaf + 0) n)) (let same : count ≡ count - 0 = omega arith in same)

  module _ (start count ahead : ℕ) (bytes : List ℕ) where
    abbrev from_here : Result (List ℕ) Act
    from_here = text_from types pointee s home (start + ahead) (count - ahead)

    here : (byte : Result ℕ Act) → ahead < count → byte ≡ byte_in (seen s (leaf_at s home (start + ahead)))
        → from_here ≡ by_byte types pointee byte (text_from types pointee s home (start + ahead + 1) (count - (ahead + 1)))
    here byte less is =
        let one : count - ahead ≡ suc (count - (ahead + 1)) = omega (arith, less) in
        ap (λ n. text_from types pointee s home (start + ahead) n) one ∙ text_more (start + ahead) (count - (ahead + 1)) byte is

    pub at_act : (a : Act) → ahead < count → Err a ≡ byte_in (seen s (leaf_at s home (start + ahead))) → with_bytes bytes from_here ≡ Err a
    at_act a less is = ap (λ r. with_bytes bytes r) (here (Err a) less is)

    pub at_zero : (byte : ℕ) → ahead < count → Ok byte ≡ byte_in (seen s (leaf_at s home (start + ahead))) → byte ≡ 0
        → with_bytes bytes from_here ≡ Ok bytes
    at_zero byte less is end =
        ap (λ r. with_bytes bytes r) (here (Ok byte) less is
        ∙ ap (λ b. picked b byte (text_from types pointee s home (start + ahead + 1) (count - (ahead + 1)))) (eq-eqb byte 0 end))
        ∙ ap (λ bs. let r : Result (List ℕ) Act = Ok bs in r) (append-nil bytes)

    after_byte : (byte : ℕ) (rest : Result (List ℕ) Act) → with_bytes bytes (with_byte types pointee byte rest) ≡ with_bytes (bytes ++ byte ∷ []) rest
    after_byte byte (Ok bs) = ap (λ bs. let r : Result (List ℕ) Act = Ok bs in r) (sym (append_assoc bytes (byte ∷ []) bs))
    after_byte byte (Err a) = refl

    pub at_byte : (byte : ℕ) → ahead < count → Ok byte ≡ byte_in (seen s (leaf_at s home (start + ahead))) → byte ≢ 0
        → with_bytes bytes from_here ≡ with_bytes (bytes ++ byte ∷ []) (text_from types pointee s home (start + (ahead + 1)) (count - (ahead + 1)))
    at_byte byte less is more =
        ap (λ r. with_bytes bytes r) (here (Ok byte) less is
        ∙ ap (λ b. picked b byte (text_from types pointee s home (start + ahead + 1) (count - (ahead + 1)))) (differs byte 0 more))
        ∙ after_byte byte (text_from types pointee s home (start + ahead + 1) (count - (ahead + 1)))
        ∙ ap (λ n. with_bytes (bytes ++ byte ∷ []) (text_from types pointee s home n (count - (ahead + 1)))) (let same : start + ahead + 1 ≡ start + (ahead + 1) = omega arith in same)
