use Rattle.std.proofs.Common.{◌≡◌, length}
use Rattle.toml.specs.View.{table_view}
use Rattle.toml.specs.Data.{get_member}
use Rattle.toml.specs.Parse.{parse_document}
use Rattle.porch_layout.proofs.FileLemmas.{layout_of-tables, tables_of-no, tables_of-parsed, some_bytes, layout_at-allowed, unless_memory}
use Rattle.porch_layout.proofs.file.layout_read.Goals as goal

pub returns-in_default-clause-answer : goal.returns-in_default-clause-answer
returns-in_default-clause-answer c =
    rw (layout_of-tables c.args.text.now c.args.name.now c.if-text-gt-MOST_BYTES.false, tables_of-no c.args.text.now (some_bytes (length c.args.text.now) c.if-is_empty.ensures) c.in_default.ensures.cases.0)

pub returns-in-Ok-table_from_str-clause-answer : goal.returns-in-Ok-table_from_str-clause-answer
returns-in-Ok-table_from_str-clause-answer c =
    let parsed : parse_document c.args.text.now ≡ _ = rw c.in-Ok.ensures.cases.0 at c.in-Ok-table_from_str.ensures.ok in
    rw (layout_of-tables c.args.text.now c.args.name.now c.if-text-gt-MOST_BYTES.false, tables_of-parsed c.args.text.now (some_bytes (length c.args.text.now) c.if-is_empty.ensures) c.in-Ok.ensures.cases.1, parsed, ← c.value_at.ensures, ← c.named.ensures) (unless_memory c.named.result)

pub returns-in-Ok-table_from_str-clause-allowed : goal.returns-in-Ok-table_from_str-clause-allowed
returns-in-Ok-table_from_str-clause-allowed c = rw (c.named.ensures, c.value_at.ensures) (layout_at-allowed (get_member c.args.name.now (table_view c.in-Ok-table_from_str.all)))
