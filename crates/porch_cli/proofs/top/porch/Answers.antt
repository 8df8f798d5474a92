use Rattle.porch_cli.proofs.Reasons.{has_done, has_trap, has_stack_full, has_paused, has_usage, has_bad_layout, has_refused, has_left_unbuilt, has_read_fault, has_disk_fault, has_no_memory, has_write_fault, has_written, has_unordered, has_refuses_layout, has_refuses, has_leaves_unbuilt, has_excludes, has_completes, has_completes_as_meant, has_line, has_line_or_prefix, one_answer}
use Rattle.porch_cli.proofs.top.porch.Goals as goal

-- the reason that the work gave, and the line that was written
answered : goal.returns-clause-answered
answered g c =
    let closed = rw c.as_slice.ensures.value at c.close.ensures in
    record { inner = c.work-status.result; text = c.work-status.new.text.items; reason = c.work-status.ensures.reason _ c.ordered_run-run.ensures.ordered; closed = closed }

pub returns-clause-answered : goal.returns-clause-answered
returns-clause-answered g c = answered g c

pub returns-clause-done : goal.returns-clause-done
returns-clause-done g c = has_done _ _ _ _ _ _ _ (answered g c)

pub returns-clause-trap : goal.returns-clause-trap
returns-clause-trap g c = has_trap _ _ _ _ _ _ _ (answered g c)

pub returns-clause-paused : goal.returns-clause-paused
returns-clause-paused g c = has_paused _ _ _ _ _ _ _ (answered g c)

pub returns-clause-stack_full : goal.returns-clause-stack_full
returns-clause-stack_full g c = has_stack_full _ _ _ _ _ _ _ (answered g c)

pub returns-clause-usage : goal.returns-clause-usage
returns-clause-usage g c = has_usage _ _ _ _ _ _ _ (answered g c)

pub returns-clause-bad_layout : goal.returns-clause-bad_layout
returns-clause-bad_layout g c = has_bad_layout _ _ _ _ _ _ _ (answered g c)

pub returns-clause-refused : goal.returns-clause-refused
returns-clause-refused g c = has_refused _ _ _ _ _ _ _ (answered g c)

pub returns-clause-unbuilt : goal.returns-clause-unbuilt
returns-clause-unbuilt g c = has_left_unbuilt _ _ _ _ _ _ _ (answered g c)

pub returns-clause-read_fault : goal.returns-clause-read_fault
returns-clause-read_fault g c = has_read_fault _ _ _ _ _ _ _ (answered g c)

pub returns-clause-disk_fault : goal.returns-clause-disk_fault
returns-clause-disk_fault g c = has_disk_fault _ _ _ _ _ _ _ (answered g c)

pub returns-clause-no_memory : goal.returns-clause-no_memory
returns-clause-no_memory g c = has_no_memory _ _ _ _ _ _ _ (answered g c)

pub returns-clause-write_fault : goal.returns-clause-write_fault
returns-clause-write_fault g c = has_write_fault _ _ _ _ _ _ _ (answered g c)

pub returns-clause-written : goal.returns-clause-written
returns-clause-written g c = λ _. has_written _ _ _ _ _ _ _ (answered g c)

pub returns-clause-unordered : goal.returns-clause-unordered
returns-clause-unordered g c = has_unordered _ _ _ _ _ _ _ (answered g c)

pub returns-clause-refuses_layout : goal.returns-clause-refuses_layout
returns-clause-refuses_layout g c = has_refuses_layout _ _ _ _ _ _ _ (answered g c) c.ordered_run-run.ensures.once

pub returns-clause-refuses : goal.returns-clause-refuses
returns-clause-refuses g c = has_refuses _ _ _ _ _ _ _ (answered g c) c.ordered_run-run.ensures.once (let law = c.a_text_has_one_answer.ensures in one_answer law.fault law.program_or_fault law.program_or_unbuilt law.unbuilt_or_fault)

pub returns-clause-leaves_unbuilt : goal.returns-clause-leaves_unbuilt
returns-clause-leaves_unbuilt g c = has_leaves_unbuilt _ _ _ _ _ _ _ (answered g c) c.ordered_run-run.ensures.once (let law = c.a_text_has_one_answer.ensures in one_answer law.fault law.program_or_fault law.program_or_unbuilt law.unbuilt_or_fault)

pub returns-clause-excludes : goal.returns-clause-excludes
returns-clause-excludes g c = has_excludes _ _ _ _ _ _ _ (answered g c) c.ordered_run-run.ensures.once

pub returns-clause-completes : goal.returns-clause-completes
returns-clause-completes g c = has_completes _ _ _ _ _ _ _ (answered g c) c.ordered_run-run.ensures.once (let law = c.a_text_has_one_answer.ensures in one_answer law.fault law.program_or_fault law.program_or_unbuilt law.unbuilt_or_fault)

pub returns-clause-completes_as_meant : goal.returns-clause-completes_as_meant
returns-clause-completes_as_meant g c = has_completes_as_meant _ _ _ _ _ _ _ (answered g c) c.ordered_run-run.ensures.once (let law = c.a_text_has_one_answer.ensures in one_answer law.fault law.program_or_fault law.program_or_unbuilt law.unbuilt_or_fault)

pub returns-clause-closing : goal.returns-clause-closing
returns-clause-closing g c = has_line _ _ _ _ _ _ _ (answered g c)

pub returns-clause-closing_failed : goal.returns-clause-closing_failed
returns-clause-closing_failed g c = has_line_or_prefix _ _ _ _ _ _ _ (answered g c)
