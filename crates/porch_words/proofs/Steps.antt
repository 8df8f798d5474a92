-- One option in front of others: what all of them give is what the others give behind it.
use Rattle.std.proofs.Common.{◌≡◌, ℕ, List, [], ◌∷◌, length, refl, ◌∙◌, arith}
use Rattle.std.specs.Global.{Global}
use Rattle.std.specs.Prelude.{Some, None, String, string_bytes}
use Rattle.std.specs.declared.option.Option.{Option}
use Rattle.porch_words.specs.declared.command.Command.{Command}
use Rattle.porch_words.specs.declared.option.Key.{Key}
use Rattle.porch_words.specs.declared.read.Taken.{Taken}
use Rattle.porch_words.specs.Orders.{Given}
use Rattle.porch_words.specs.Words.{texts}
use Rattle.porch_words.specs.inside.Reading.{joined, apart, neither, part_of, and_then, put, read}
use Rattle.porch_words.specs.inside.Steps.{Takes, TakesNext, TakesValue}

none_left : (c : Command) (o : Option Given) → o ≡ and_then o (λ h. read c h [])
unfolding read
none_left c None = refl
none_left c (Some h) = refl

-- a word with its value
pub reads_joined : (c : Command) (g : Given) (k : Key) (v w : List ℕ) (ws : List (List ℕ)) → part_of w ≡ joined k v → read c g (w ∷ ws) ≡ and_then (put c g k v) (λ h. read c h ws)
unfolding read
reads_joined c g k v w [] e = rw e (none_left c (put c g k v))
reads_joined c g k v w (u ∷ us) e = rw e refl

-- a word whose value is the next one
pub reads_apart : (c : Command) (g : Given) (k : Key) (w v : List ℕ) (ws : List (List ℕ)) → part_of w ≡ apart k → read c g (w ∷ v ∷ ws) ≡ and_then (put c g k v) (λ h. read c h ws)
unfolding read
reads_apart c g k w v ws e = rw e refl

pub reads_alone : (c : Command) (g : Given) (k : Key) (w : List ℕ) → part_of w ≡ apart k → read c g (w ∷ []) ≡ None
unfolding read
reads_alone c g k w e = rw e refl

pub reads_neither : (c : Command) (g : Given) (w : List ℕ) (ws : List (List ℕ)) → part_of w ≡ neither → read c g (w ∷ ws) ≡ None
unfolding read
reads_neither c g w [] e = rw e refl
reads_neither c g w (u ∷ us) e = rw e refl

pub takes_joined : (c : Command) (g : Given) (k : Key) (v w : List ℕ) (ws : List (String Global)) (r : Option Taken) → part_of w ≡ joined k v → TakesValue c g k v ws r → Takes c g w ws r
takes_joined c g k v w ws None e h = reads_joined c g k v w (texts ws) e ∙ (rw h refl)
takes_joined c g k v w ws (Some t) e h =
    (reads_joined c g k v w (texts ws) e ∙ (rw (h.0, h.1) refl), rw h.1 (omega arith))

pub takes_apart : (c : Command) (g : Given) (k : Key) (w : List ℕ) (ws : List (String Global)) (r : Option Taken) → part_of w ≡ apart k → TakesNext c g k ws r → Takes c g w ws r
takes_apart c g k w [] None e h = reads_alone c g k w e
takes_apart c g k w [] (Some t) e h = absurd (let x = h in cc)
takes_apart c g k w (v ∷ vs) None e h = reads_apart c g k w (string_bytes v) (texts vs) e ∙ (rw h refl)
takes_apart c g k w (v ∷ vs) (Some t) e h =
    (reads_apart c g k w (string_bytes v) (texts vs) e ∙ (rw (h.0, h.1) refl), rw h.1 (omega arith))

-- no words are left
pub reads_end : (c : Command) (g : Given) (ws : List (String Global)) → length ws ≡ 0 → Some g ≡ read c g (texts ws)
unfolding read
reads_end c g [] e = refl
reads_end c g (w ∷ ws) e = absurd (omega arith)
