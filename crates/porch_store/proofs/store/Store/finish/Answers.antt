use Rattle.std.proofs.Common.{◌+◌, ◌≤◌, length, take, refl, sym, ◌∙◌, ap, subst, Some}
use Rattle.porch_edge.specs.declared.disk.FileName.{FileName}
use Rattle.porch_edge.specs.Files.{file_of}
use Rattle.porch_edge.specs.Disk.{WhereTold, HasFront, TouchesOnly, HasNow}
use Rattle.porch_edge.specs.Runs.{now_joins}
use Rattle.porch_gate.specs.Gates.{HasFirst, HasNoLetter, WholeOrClosed, opened_bytes}
use Rattle.porch_store.specs.declared.newest.Newest.TheVariants.{One}
use Rattle.porch_store.specs.Checkpoints.{IsOpen}
use Rattle.porch_store.specs.Taken.{older_of}
use Rattle.porch_store.specs.Stores.{Knows}
use Rattle.porch_store.proofs.Commits.{the_gate, staying, fill_some, fill_front, fill_long, fill_no_letter, sealed_run, sealed_long, finish_run, finish_now, finish_file, finish_keeps, is_new, is_ready, by_bytes}
use Rattle.porch_store.proofs.Starts.{ready_is}
use Rattle.porch_store.proofs.store.Store.finish.Goals as goal

pub seal-requires-clause-some : goal.seal-requires-clause-some
seal-requires-clause-some g c =
    let store = c.args.self.now in
    let s = g.D.Disk.state c.args.disk.now in
    subst (λ (f : FileName). HasFirst s f) (sym c.older-file.ensures) (fill_some store.newest store.number store.begun store.appended s s c.requires.ready)

pub seal-requires-clause-front : goal.seal-requires-clause-front
seal-requires-clause-front g c =
    let store = c.args.self.now in
    let s = g.D.Disk.state c.args.disk.now in
    subst (λ (f : FileName). HasFront s f) (sym c.older-file.ensures) (fill_front store.newest store.number store.begun store.appended s s c.requires.ready)

pub open_gate-requires-clause-long : goal.open_gate-requires-clause-long
open_gate-requires-clause-long g c =
    let store = c.args.self.now in
    let s = g.D.Disk.state c.args.disk.now in
    let t = g.D.Disk.state c.seal.new.disk in
    let e = c.older-file.ensures in
    let gate = c.checkpoint-gate in
    let file = older_of store.newest in
    let long = fill_long store.newest store.number store.begun store.appended s s c.requires.ready in
    let sealed = subst (λ (f : FileName). HasNow s t f (take (1 + store.appended))) e c.in_ok-seal.ensures.now in
    subst (λ (f : FileName). WhereTold t (λ fs. gate.result.least ≤ length (file_of f fs))) (sym e)
    (sealed_long gate.result gate.ensures.letter gate.ensures.least store.appended s t file long sealed c.requires.long)

pub returns-in_err-seal-clause-one_file : goal.returns-in_err-seal-clause-one_file
returns-in_err-seal-clause-one_file g c =
    let store = c.args.self.now in
    let s = g.D.Disk.state c.args.disk.now in
    let t = g.D.Disk.state c.seal.new.disk in
    let e = c.older-file.ensures in
    let file = older_of store.newest in
    let shut : TouchesOnly s t file (λ _ x. ¬ IsOpen x) = subst (λ (f : FileName). TouchesOnly s t f (λ _ x. ¬ IsOpen x)) e
    (staying the_gate refl refl s t c.older-file.result
    (c.seal.ensures.closed the_gate (subst (λ (f : FileName). HasNoLetter s f the_gate) (sym e) (fill_no_letter store.newest store.number store.begun store.appended s s c.requires.ready the_gate refl)))) in
    λ start bytes has so_far. finish_file store.newest store.number store.begun store.appended s t c.requires.ready c.requires.long c.requires.numbered bytes has
    (sealed_run bytes s t file shut) (g.D.Disk.state start) so_far

pub returns-in_err-seal-clause-moments : goal.returns-in_err-seal-clause-moments
returns-in_err-seal-clause-moments g c =
    let store = c.args.self.now in
    let s = g.D.Disk.state c.args.disk.now in
    let t = g.D.Disk.state c.seal.new.disk in
    let e = c.older-file.ensures in
    let file = older_of store.newest in
    let shut : TouchesOnly s t file (λ _ x. ¬ IsOpen x) = subst (λ (f : FileName). TouchesOnly s t f (λ _ x. ¬ IsOpen x)) e
    (staying the_gate refl refl s t c.older-file.result
    (c.seal.ensures.closed the_gate (subst (λ (f : FileName). HasNoLetter s f the_gate) (sym e) (fill_no_letter store.newest store.number store.begun store.appended s s c.requires.ready the_gate refl)))) in
    λ start bytes has so_far. finish_keeps store.newest store.number store.begun store.appended s t c.requires.ready c.requires.long c.requires.numbered bytes has
    (sealed_run bytes s t file shut) (g.D.Disk.state start) so_far

pub returns-in_err-open_gate-clause-one_file : goal.returns-in_err-open_gate-clause-one_file
returns-in_err-open_gate-clause-one_file g c =
    let store = c.args.self.now in
    let s = g.D.Disk.state c.args.disk.now in
    let t = g.D.Disk.state c.seal.new.disk in
    let e = c.older-file.ensures in
    let file = older_of store.newest in
    let shut : TouchesOnly s t file (λ _ x. ¬ IsOpen x) = subst (λ (f : FileName). TouchesOnly s t f (λ _ x. ¬ IsOpen x)) e
    (staying the_gate refl refl s t c.older-file.result
    (c.seal.ensures.closed the_gate (subst (λ (f : FileName). HasNoLetter s f the_gate) (sym e) (fill_no_letter store.newest store.number store.begun store.appended s s c.requires.ready the_gate refl)))) in
    let gate = c.checkpoint-gate in
    let u = g.D.Disk.state c.open_gate.new.disk in
    let long = fill_long store.newest store.number store.begun store.appended s s c.requires.ready in
    let sealed = subst (λ (f : FileName). HasNow s t f (take (1 + store.appended))) e c.in_ok-seal.ensures.now in
    let opened = subst (λ (f : FileName). TouchesOnly t u f (WholeOrClosed gate.result)) e c.open_gate.ensures.moments in
    λ start bytes has so_far. finish_file store.newest store.number store.begun store.appended s u c.requires.ready c.requires.long c.requires.numbered bytes has
    (finish_run gate.result gate.ensures.letter gate.ensures.least store.appended s t file long sealed bytes has u shut opened) (g.D.Disk.state start) so_far

pub returns-in_err-open_gate-clause-moments : goal.returns-in_err-open_gate-clause-moments
returns-in_err-open_gate-clause-moments g c =
    let store = c.args.self.now in
    let s = g.D.Disk.state c.args.disk.now in
    let t = g.D.Disk.state c.seal.new.disk in
    let e = c.older-file.ensures in
    let file = older_of store.newest in
    let shut : TouchesOnly s t file (λ _ x. ¬ IsOpen x) = subst (λ (f : FileName). TouchesOnly s t f (λ _ x. ¬ IsOpen x)) e
    (staying the_gate refl refl s t c.older-file.result
    (c.seal.ensures.closed the_gate (subst (λ (f : FileName). HasNoLetter s f the_gate) (sym e) (fill_no_letter store.newest store.number store.begun store.appended s s c.requires.ready the_gate refl)))) in
    let gate = c.checkpoint-gate in
    let u = g.D.Disk.state c.open_gate.new.disk in
    let long = fill_long store.newest store.number store.begun store.appended s s c.requires.ready in
    let sealed = subst (λ (f : FileName). HasNow s t f (take (1 + store.appended))) e c.in_ok-seal.ensures.now in
    let opened = subst (λ (f : FileName). TouchesOnly t u f (WholeOrClosed gate.result)) e c.open_gate.ensures.moments in
    λ start bytes has so_far. finish_keeps store.newest store.number store.begun store.appended s u c.requires.ready c.requires.long c.requires.numbered bytes has
    (finish_run gate.result gate.ensures.letter gate.ensures.least store.appended s t file long sealed bytes has u shut opened) (g.D.Disk.state start) so_far

pub returns-clause-one_file : goal.returns-clause-one_file
returns-clause-one_file g c =
    let store = c.args.self.now in
    let s = g.D.Disk.state c.args.disk.now in
    let t = g.D.Disk.state c.seal.new.disk in
    let e = c.older-file.ensures in
    let file = older_of store.newest in
    let shut : TouchesOnly s t file (λ _ x. ¬ IsOpen x) = subst (λ (f : FileName). TouchesOnly s t f (λ _ x. ¬ IsOpen x)) e
    (staying the_gate refl refl s t c.older-file.result
    (c.seal.ensures.closed the_gate (subst (λ (f : FileName). HasNoLetter s f the_gate) (sym e) (fill_no_letter store.newest store.number store.begun store.appended s s c.requires.ready the_gate refl)))) in
    let gate = c.checkpoint-gate in
    let u = g.D.Disk.state c.open_gate.new.disk in
    let long = fill_long store.newest store.number store.begun store.appended s s c.requires.ready in
    let sealed = subst (λ (f : FileName). HasNow s t f (take (1 + store.appended))) e c.in_ok-seal.ensures.now in
    let opened = subst (λ (f : FileName). TouchesOnly t u f (WholeOrClosed gate.result)) e c.open_gate.ensures.moments in
    λ start bytes has so_far. finish_file store.newest store.number store.begun store.appended s u c.requires.ready c.requires.long c.requires.numbered bytes has
    (finish_run gate.result gate.ensures.letter gate.ensures.least store.appended s t file long sealed bytes has u shut opened) (g.D.Disk.state start) so_far

pub returns-clause-moments : goal.returns-clause-moments
returns-clause-moments g c =
    let store = c.args.self.now in
    let s = g.D.Disk.state c.args.disk.now in
    let t = g.D.Disk.state c.seal.new.disk in
    let e = c.older-file.ensures in
    let file = older_of store.newest in
    let shut : TouchesOnly s t file (λ _ x. ¬ IsOpen x) = subst (λ (f : FileName). TouchesOnly s t f (λ _ x. ¬ IsOpen x)) e
    (staying the_gate refl refl s t c.older-file.result
    (c.seal.ensures.closed the_gate (subst (λ (f : FileName). HasNoLetter s f the_gate) (sym e) (fill_no_letter store.newest store.number store.begun store.appended s s c.requires.ready the_gate refl)))) in
    let gate = c.checkpoint-gate in
    let u = g.D.Disk.state c.open_gate.new.disk in
    let long = fill_long store.newest store.number store.begun store.appended s s c.requires.ready in
    let sealed = subst (λ (f : FileName). HasNow s t f (take (1 + store.appended))) e c.in_ok-seal.ensures.now in
    let opened = subst (λ (f : FileName). TouchesOnly t u f (WholeOrClosed gate.result)) e c.open_gate.ensures.moments in
    λ start bytes has so_far. finish_keeps store.newest store.number store.begun store.appended s u c.requires.ready c.requires.long c.requires.numbered bytes has
    (finish_run gate.result gate.ensures.letter gate.ensures.least store.appended s t file long sealed bytes has u shut opened) (g.D.Disk.state start) so_far

pub returns-clause-now : goal.returns-clause-now
returns-clause-now g c =
    let store = c.args.self.now in
    let s = g.D.Disk.state c.args.disk.now in
    let t = g.D.Disk.state c.seal.new.disk in
    let e = c.older-file.ensures in
    let file = older_of store.newest in
    let shut : TouchesOnly s t file (λ _ x. ¬ IsOpen x) = subst (λ (f : FileName). TouchesOnly s t f (λ _ x. ¬ IsOpen x)) e
    (staying the_gate refl refl s t c.older-file.result
    (c.seal.ensures.closed the_gate (subst (λ (f : FileName). HasNoLetter s f the_gate) (sym e) (fill_no_letter store.newest store.number store.begun store.appended s s c.requires.ready the_gate refl)))) in
    let gate = c.checkpoint-gate in
    let u = g.D.Disk.state c.open_gate.new.disk in
    let long = fill_long store.newest store.number store.begun store.appended s s c.requires.ready in
    let sealed = subst (λ (f : FileName). HasNow s t f (take (1 + store.appended))) e c.in_ok-seal.ensures.now in
    let opened = subst (λ (f : FileName). TouchesOnly t u f (WholeOrClosed gate.result)) e c.open_gate.ensures.moments in
    let opened_now = subst (λ (f : FileName). HasNow t u f (opened_bytes gate.result)) e c.in_ok-open_gate.ensures.now in
    λ bytes has. finish_now gate.result gate.ensures.letter gate.ensures.least store.appended s t file long sealed bytes has u opened_now

pub returns-clause-newest : goal.returns-clause-newest
returns-clause-newest g c =
    let store = c.args.self.now in
    let s = g.D.Disk.state c.args.disk.now in
    let t = g.D.Disk.state c.seal.new.disk in
    let e = c.older-file.ensures in
    let file = older_of store.newest in
    let shut : TouchesOnly s t file (λ _ x. ¬ IsOpen x) = subst (λ (f : FileName). TouchesOnly s t f (λ _ x. ¬ IsOpen x)) e
    (staying the_gate refl refl s t c.older-file.result
    (c.seal.ensures.closed the_gate (subst (λ (f : FileName). HasNoLetter s f the_gate) (sym e) (fill_no_letter store.newest store.number store.begun store.appended s s c.requires.ready the_gate refl)))) in
    let gate = c.checkpoint-gate in
    let u = g.D.Disk.state c.open_gate.new.disk in
    let long = fill_long store.newest store.number store.begun store.appended s s c.requires.ready in
    let sealed = subst (λ (f : FileName). HasNow s t f (take (1 + store.appended))) e c.in_ok-seal.ensures.now in
    let opened = subst (λ (f : FileName). TouchesOnly t u f (WholeOrClosed gate.result)) e c.open_gate.ensures.moments in
    let opened_now = subst (λ (f : FileName). HasNow t u f (opened_bytes gate.result)) e c.in_ok-open_gate.ensures.now in
    λ bytes has. is_new store.newest store.number store.begun store.appended s u c.requires.ready c.requires.long c.requires.numbered bytes has
    (finish_run gate.result gate.ensures.letter gate.ensures.least store.appended s t file long sealed bytes has u shut opened)
    (finish_now gate.result gate.ensures.letter gate.ensures.least store.appended s t file long sealed bytes has u opened_now)

pub returns-clause-ready : goal.returns-clause-ready
returns-clause-ready g c =
    let store = c.args.self.now in
    let s = g.D.Disk.state c.args.disk.now in
    let t = g.D.Disk.state c.seal.new.disk in
    let e = c.older-file.ensures in
    let file = older_of store.newest in
    let shut : TouchesOnly s t file (λ _ x. ¬ IsOpen x) = subst (λ (f : FileName). TouchesOnly s t f (λ _ x. ¬ IsOpen x)) e
    (staying the_gate refl refl s t c.older-file.result
    (c.seal.ensures.closed the_gate (subst (λ (f : FileName). HasNoLetter s f the_gate) (sym e) (fill_no_letter store.newest store.number store.begun store.appended s s c.requires.ready the_gate refl)))) in
    let gate = c.checkpoint-gate in
    let u = g.D.Disk.state c.open_gate.new.disk in
    let long = fill_long store.newest store.number store.begun store.appended s s c.requires.ready in
    let sealed = subst (λ (f : FileName). HasNow s t f (take (1 + store.appended))) e c.in_ok-seal.ensures.now in
    let opened = subst (λ (f : FileName). TouchesOnly t u f (WholeOrClosed gate.result)) e c.open_gate.ensures.moments in
    let opened_now = subst (λ (f : FileName). HasNow t u f (opened_bytes gate.result)) e c.in_ok-open_gate.ensures.now in
    ready_is c.resting.result u (One file) (Some store.begun) (c.resting.ensures.newest ∙ ap (λ (f : FileName). One f) e) c.resting.ensures.number
    (by_bytes s u file store.appended _ (Knows (One file) (Some store.begun) u) (now_joins s t u file (take (1 + store.appended)) (opened_bytes gate.result) sealed opened_now)
    (λ bytes has. is_ready store.newest store.number store.begun store.appended s u c.requires.ready c.requires.long c.requires.numbered bytes has
    (finish_run gate.result gate.ensures.letter gate.ensures.least store.appended s t file long sealed bytes has u shut opened)
    (finish_now gate.result gate.ensures.letter gate.ensures.least store.appended s t file long sealed bytes has u opened_now)))
