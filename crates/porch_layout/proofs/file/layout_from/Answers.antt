use Rattle.porch_layout.proofs.RuleLemmas.{too_long, not_toml, no_name, not_table, unknown_key, missing_key, bad_value}
use Rattle.porch_layout.proofs.file.layout_from.Goals as goal

pub returns-clause-too_long : goal.returns-clause-too_long
returns-clause-too_long c = too_long c.args.text.now c.args.name.now c.layout_read.result c.layout_read.ensures.answer

pub returns-clause-not_toml : goal.returns-clause-not_toml
returns-clause-not_toml c = not_toml c.args.text.now c.args.name.now c.layout_read.result c.layout_read.ensures.answer

pub returns-clause-no_name : goal.returns-clause-no_name
returns-clause-no_name c = no_name c.args.text.now c.args.name.now c.layout_read.result c.layout_read.ensures.answer

pub returns-clause-not_table : goal.returns-clause-not_table
returns-clause-not_table c = not_table c.args.text.now c.args.name.now c.layout_read.result c.layout_read.ensures.answer

pub returns-clause-unknown_key : goal.returns-clause-unknown_key
returns-clause-unknown_key c = unknown_key c.args.text.now c.args.name.now c.layout_read.result c.layout_read.ensures.answer

pub returns-clause-missing_key : goal.returns-clause-missing_key
returns-clause-missing_key c = λ key. missing_key c.args.text.now c.args.name.now key c.layout_read.result c.layout_read.ensures.answer

pub returns-clause-bad_value : goal.returns-clause-bad_value
returns-clause-bad_value c = λ key. bad_value c.args.text.now c.args.name.now key c.layout_read.result c.layout_read.ensures.answer
