use Rattle.std.proofs.Common.{refl}
use Rattle.porch_words.proofs.Split.{split_none, split_some}
use Rattle.porch_words.proofs.option.part_of.Goals as goal

pub returns-in-Some : goal.returns-in-Some
returns-in-Some c =
    let at = split_some c.args.word.now (c.in-Some.name, c.in-Some.value) c.in-Some.ensures.cases in
    rw (at, c.joined.ensures, c.key_of_name.ensures) refl

pub returns-in-None : goal.returns-in-None
returns-in-None c =
    let none = split_none c.args.word.now c.in-None.ensures.cases in
    rw (none, c.apart.ensures, c.key_of_name-in-None.ensures) refl
