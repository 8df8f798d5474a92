-- What reads take from a source.
use Rattle.std.proofs.Common.{◌≡◌, ◌<◌, ◌^◌, ℕ, List, [], ◌++◌, length, take, refl, sym, ap, ◌∙◌, arith, append_assoc}
use Rattle.std.specs.Prelude.{Ok}
use Rattle.std.specs.declared.option.Option.{Option}
use Rattle.std.specs.declared.option.Option.TheVariants.{Some, None}
use Rattle.porch_edge.specs.Streams.{Takes}
use Rattle.porch_cli.specs.Answers.{HasRead}
use Rattle.porch_cli.specs.inside.Parts.{HasTaken}

pub none_taken : (a : Option (List ℕ)) → HasTaken a a []
none_taken None = refl
none_taken (Some held) = refl

pub more_taken : (a b c : Option (List ℕ)) (text buf : List ℕ) (n : ℕ) → HasTaken a b text → Takes b c (Ok n) buf → HasTaken a c (text ++ take n buf)
more_taken None None None text buf n p q = refl
more_taken None None (Some c) text buf n p q = absurd q
more_taken None (Some b) c text buf n p q = absurd (let k : ⊥ = cc in k)
more_taken (Some a) None c text buf n p q = absurd p
more_taken (Some a) (Some b) None text buf n p q = absurd q
more_taken (Some a) (Some b) (Some c) text buf n p q = p ∙ ap (λ (x : List ℕ). text ++ x) q.0 ∙ sym (append_assoc text (take n buf) c)

pub read_to_end : (a b c : Option (List ℕ)) (text buf : List ℕ) (n : ℕ) → n ≡ 0 → 0 < length buf → HasTaken a b text → Takes b c (Ok n) buf → HasRead a c text
read_to_end None None None text buf n z h p q = refl
read_to_end None None (Some c) text buf n z h p q = absurd q
read_to_end None (Some b) c text buf n z h p q = absurd (let k : ⊥ = cc in k)
read_to_end (Some a) None c text buf n z h p q = absurd p
read_to_end (Some a) (Some b) None text buf n z h p q = absurd q
read_to_end (Some a) (Some b) (Some c) text buf n z h p q =
    let same : b ≡ c = rw z at q.0 in
    (p ∙ ap (λ (x : List ℕ). text ++ x) same, λ _. sym same ∙ q.1 z h)

pub read_past : (a b : Option (List ℕ)) (text : List ℕ) → HasTaken a b text → 2 ^ 20 < length text → HasRead a b text
read_past None b text p h = p
read_past (Some a) None text p h = p
read_past (Some a) (Some b) text p h = (p, λ k. absurd (omega arith))
