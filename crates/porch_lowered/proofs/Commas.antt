-- Values that are dropped, and commas, of which the last value is handed on.
use Rattle.std.proofs.Common.{◌≡◌, ℕ, ◌+◌, [], ◌++◌, length, refl, arith, length-append, Option, None}
use Rattle.std.specs.Prelude.{⊤}
use Rattle.porch_objects.specs.Store.{Value}
use Rattle.porch_objects.specs.Meaning.{Progress}
use Rattle.porch_typed.specs.Mirror.{Expression, Expressions, Program, no_expressions, with_expression, sequence}
use Rattle.porch_mean.specs.Outcome.{Outcome, Went, Calls, and_then}
use Rattle.porch_mean.specs.Expression.{last_value}
use Rattle.porch_lowering.specs.Code.{InUse, no_code, then_code, Coder}
use Rattle.porch_lowering.specs.Values.{type_held}
use Rattle.porch_lowering.specs.Expression.{code, last_code}
use Rattle.porch_lowered.proofs.Follows.{follows_from, follows_then}
use Rattle.porch_lowered.proofs.States.{front_stands, back_stands}
use Rattle.porch_lowered.proofs.Codes.{Context, at_most_left, at_most_right, commands, here, arrives_from, Evaluates}
use Rattle.porch_lowered.proofs.Lowered.{Nowhere, means}

module _ (c : Context) where
  -- a value that is dropped, and then what follows
  pub dropped_then : (ty ty' : ℕ) (Fit : InUse → Option ℕ → Type 0) (Is : Value → Progress → Type 0) (value : Progress → Outcome) (go : Value → Progress → Outcome) (coder coder' : Coder)
      → Evaluates c (Nowhere c) (λ v s. ⊤) ty value coder → ((v : Value) → Evaluates c Fit Is ty' (λ s. go v s) coder')
      → Evaluates c Fit Is ty' (λ s. and_then (value s) go) (λ to used label. let a = coder None used label in then_code a (coder' to used a.label))
  dropped_then ty ty' Fit Is value go coder coder' x y to used label place made s ts ready fits may room stands =
      let a = coder None used label in
      let b = coder' to used a.label in
      let middle = place + length a.commands in
      let end : middle + length b.commands ≡ place + length (a.commands ++ b.commands) = simp length-append (omega arith) in
      follows_then c.flat c.under c.n (value s) go (here c s ts place) s.marks _ _
      (x None used label place made s ts ready refl tt (λ t. at_most_left (a.most t) (b.most t) (c.pools t) (room t)) (front_stands (commands c) place a.commands b.commands stands))
      (λ v s' both.
      (let near = both.0 in
      follows_from c.flat c.under c.n (go v s') (here c s ts place) (here c s' near.temporaries middle) s.marks s'.marks _ _ near.onward
      (λ w s'' far.
      rw (← end) (
        arrives_from c ty' made near.later to used ts near.temporaries (here c s ts place) (here c s' near.temporaries middle) s.marks s'.marks (middle + length b.commands) w s''
            near.adds near.onward near.kept far.0,
        far.1,
      ))
      (y v to used a.label middle near.later s' near.temporaries near.ready fits may
      (λ t. at_most_right (a.most t) (b.most t) (c.pools t) (room t)) (back_stands (commands c) place a.commands b.commands stands))))

  -- nothing more comes behind it
  pub followed_by_none : (Fit : InUse → Option ℕ → Type 0) (Is : Value → Progress → Type 0) (ty : ℕ) (value : Progress → Outcome) (coder : Coder)
      → Evaluates c Fit Is ty value coder
      → Evaluates c Fit Is ty (λ s. and_then (value s) (λ v s. Went v s)) (λ to used label. let a = coder to used label in then_code a (no_code used a.label))
  followed_by_none Fit Is ty value coder x to used label place made s ts ready fits may room stands =
      let a = coder to used label in
      let end : place + length a.commands ≡ place + length (a.commands ++ []) = simp length-append (omega arith) in
      follows_then c.flat c.under c.n (value s) (λ v s. Went v s) (here c s ts place) s.marks _ _
      (x to used label place made s ts ready fits may (λ t. at_most_left (a.most t) (used t) (c.pools t) (room t)) (front_stands (commands c) place a.commands [] stands))
      (λ v u far. rw (← end) far)

  module _ (p : Program) (enter : Calls) where
    abbrev pub IsDropped : Expression → Type 0
    IsDropped e = Evaluates c (Nowhere c) (λ v s. ⊤) (type_held p e) (λ s. means c p enter e s) (code p c.start e)

    -- all but the last are dropped, and that one has a type
    abbrev pub AreCommas : (Fit : InUse → Option ℕ → Type 0) → (Is : Value → Progress → Type 0) → (ty : ℕ) → Expressions → Type 0
    AreCommas Fit Is ty no_expressions = ⊥
    AreCommas Fit Is ty (with_expression e no_expressions) = Evaluates c Fit Is ty (λ s. means c p enter e s) (code p c.start e)
    AreCommas Fit Is ty (with_expression e (with_expression e' es)) = IsDropped e × AreCommas Fit Is ty (with_expression e' es)

    pub last_follows : (Fit : InUse → Option ℕ → Type 0) (Is : Value → Progress → Type 0) (ty : ℕ) (es : Expressions) → AreCommas Fit Is ty es → (v : Value)
        → Evaluates c Fit Is ty (λ s. last_value p c.under enter c.call es v s) (last_code p c.start es)
    last_follows Fit Is ty no_expressions lowered v = absurd lowered
    last_follows Fit Is ty (with_expression e no_expressions) lowered v = followed_by_none Fit Is ty (λ s. means c p enter e s) (code p c.start e) lowered
    last_follows Fit Is ty (with_expression e (with_expression e' es)) lowered v =
        dropped_then (type_held p e) ty Fit Is (λ s. means c p enter e s) (λ v s. last_value p c.under enter c.call (with_expression e' es) v s) (code p c.start e)
        (last_code p c.start (with_expression e' es)) lowered.0
        (λ v. last_follows Fit Is ty (with_expression e' es) lowered.1 v)

    -- a comma expression
    pub commas_follow : (Fit : InUse → Option ℕ → Type 0) (Is : Value → Progress → Type 0) (ty : ℕ) (e : Expression) (es : Expressions) → IsDropped e → AreCommas Fit Is ty es
        → Evaluates c Fit Is ty (λ s. means c p enter (sequence e es) s) (code p c.start (sequence e es))
    commas_follow Fit Is ty e es dropped lowered =
        dropped_then (type_held p e) ty Fit Is (λ s. means c p enter e s) (λ v s. last_value p c.under enter c.call es v s) (code p c.start e) (last_code p c.start es) dropped
        (λ v. last_follows Fit Is ty es lowered v)
