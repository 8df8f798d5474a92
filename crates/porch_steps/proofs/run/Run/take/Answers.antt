use Rattle.porch_steps.proofs.run.Run.take.Goals as goal

pub returns-in-On : goal.returns-in-On
returns-in-On c = record { led = λ flat under. rw c.in-On.is (c.on.ensures.led flat under) }

pub returns-in-Become : goal.returns-in-Become
returns-in-Become c = record { led = λ flat under. rw c.in-Become.is (c.give_value.ensures.led flat under) }

pub returns-in-Forget : goal.returns-in-Forget
returns-in-Forget c = record { led = λ flat under. rw c.in-Forget.is (c.forget.ensures.led flat under) }

pub returns-in-Show : goal.returns-in-Show
returns-in-Show c = record { led = λ flat under. rw c.in-Show.is (c.show.ensures.led flat under) }

pub returns-in-Go : goal.returns-in-Go
returns-in-Go c = record { led = λ flat under. rw c.in-Go.is (c.go.ensures.led flat under) }

pub returns-in-Count : goal.returns-in-Count
returns-in-Count c = record { led = λ flat under. rw c.in-Count.is (c.count.ensures.led flat under) }

pub returns-in-Reach : goal.returns-in-Reach
returns-in-Reach c = record { led = λ flat under. rw c.in-Reach.is (c.reach.ensures.led flat under) }

pub returns-in-Give : goal.returns-in-Give
returns-in-Give c = record { led = λ flat under. rw c.in-Give.is (c.give_back.ensures.led flat under) }
