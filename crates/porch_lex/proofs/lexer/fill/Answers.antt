use Rattle.std.proofs.Common.{◌≡◌, ◌+◌, false, List, ◌++◌, ◌∷◌, [], length, drop, inr, sym, ap, ◌∙◌, subst, rules, arith}
use Rattle.porch_lex.specs.declared.token.Token.{Token}
use Rattle.porch_lex.specs.declared.lexeme.Lexeme.TheVariants as lexeme
use Rattle.porch_lex.specs.Lexemes.{lexeme_at}
use Rattle.porch_lex.specs.Tokens.{token_at}
use Rattle.porch_lex.proofs.Reached.{Reached, GoesOn, past_gap, past_token, finished, refused, gap_goes_on, token_goes_on, limited}
use Rattle.porch_lex.proofs.lexer.fill.Goals as goal

pub returns-in-End-clause-read : goal.returns-in-End-clause-read
returns-in-End-clause-read c = (
  c.lexemes.invariant.1,
  finished c.args.text.now c.lexemes.tokens.items c.lexemes.fresh c.lexemes.at c.lexemes.invariant.0
      (sym c.in-End.is ∙ c.next_lexeme.ensures ∙ ap (lexeme_at c.lexemes.fresh) c.rest_from.ensures),
)

gap_is : (c : goal.In-Gap) → lexeme.Gap c.in-Gap.length c.in-Gap.next ≡ lexeme_at c.lexemes.fresh (drop c.lexemes.at c.args.text.now)
gap_is c = sym c.in-Gap.is ∙ c.next_lexeme.ensures ∙ ap (lexeme_at c.lexemes.fresh) c.rest_from.ensures

gap_on : (c : goal.In-Gap) → GoesOn c.args.text.now c.lexemes.at c.in-Gap.length
gap_on c = gap_goes_on c.args.text.now c.lexemes.fresh c.lexemes.at c.in-Gap.length c.in-Gap.next c.lexemes.invariant.0.within (gap_is c)

pub overflow_add-at : goal.overflow_add-at
overflow_add-at c = let on = (gap_on c).1 in search (rules, on)

pub lexemes-smaller-in-Gap : goal.lexemes-smaller-in-Gap
lexemes-smaller-in-Gap c = let some = (gap_on c).0 in let on = (gap_on c).1 in omega (arith, some, on)

pub lexemes-preserved-in-Gap : goal.lexemes-preserved-in-Gap
lexemes-preserved-in-Gap c = (
  past_gap c.args.text.now c.lexemes.tokens.items c.lexemes.fresh c.lexemes.at c.in-Gap.length c.in-Gap.next c.lexemes.invariant.0 (gap_is c),
  c.lexemes.invariant.1,
)

pub overflow_add-to : goal.overflow_add-to
overflow_add-to c =
    let on = (token_goes_on c.args.text.now c.lexemes.fresh c.lexemes.at c.in-Token.length c.in-Token.kind c.lexemes.invariant.0.within
    (sym c.in-Token.is ∙ c.next_lexeme.ensures ∙ ap (lexeme_at c.lexemes.fresh) c.rest_from.ensures)).1 in
    search (rules, on)

pub overflow_cast-to : goal.overflow_cast-to
overflow_cast-to c =
    let on = (token_goes_on c.args.text.now c.lexemes.fresh c.lexemes.at c.in-Token.length c.in-Token.kind c.lexemes.invariant.0.within
    (sym c.in-Token.is ∙ c.next_lexeme.ensures ∙ ap (lexeme_at c.lexemes.fresh) c.rest_from.ensures)).1 in
    let few = limited (length c.args.text.now) c.lexemes.invariant.1 in
    search (rules, on, few)

token_is : (c : goal.In_ok-push-in-Token) → lexeme.Token c.in-Token.kind c.in-Token.length ≡ lexeme_at c.lexemes.fresh (drop c.lexemes.at c.args.text.now)
token_is c = sym c.in-Token.is ∙ c.next_lexeme.ensures ∙ ap (lexeme_at c.lexemes.fresh) c.rest_from.ensures

token_on : (c : goal.In_ok-push-in-Token) → GoesOn c.args.text.now c.lexemes.at c.in-Token.length
token_on c = token_goes_on c.args.text.now c.lexemes.fresh c.lexemes.at c.in-Token.length c.in-Token.kind c.lexemes.invariant.0.within (token_is c)

pub lexemes-smaller : goal.lexemes-smaller
lexemes-smaller c = let some = (token_on c).0 in let on = (token_on c).1 in omega (arith, some, on)

pub lexemes-preserved : goal.lexemes-preserved
lexemes-preserved c =
    let put : c.push.new.self.items ≡ c.lexemes.tokens.items ++ token_at c.in-Token.kind c.lexemes.at c.in-Token.length ∷ [] = c.in_ok-push-in-Token.ensures.items in (
      subst (λ (x : List Token). Reached c.args.text.now x false (c.lexemes.at + c.in-Token.length)) (sym put)
          (past_token c.args.text.now c.lexemes.tokens.items c.lexemes.fresh c.lexemes.at c.in-Token.length c.in-Token.kind c.lexemes.invariant.0 (token_is c)),
      c.lexemes.invariant.1,
    )

pub returns-in-Fault-clause-refused : goal.returns-in-Fault-clause-refused
returns-in-Fault-clause-refused c =
    inr (
      c.lexemes.invariant.1,
      refused c.args.text.now c.lexemes.tokens.items c.lexemes.fresh c.lexemes.at c.in-Fault.rule c.lexemes.invariant.0
          (sym c.in-Fault.is ∙ c.next_lexeme.ensures ∙ ap (lexeme_at c.lexemes.fresh) c.rest_from.ensures),
    )
