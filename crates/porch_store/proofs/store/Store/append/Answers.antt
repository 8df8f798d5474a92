use Rattle.std.proofs.Common.{◌+◌, refl, subst, sym}
use Rattle.porch_edge.specs.declared.disk.FileName.{FileName}
use Rattle.porch_edge.specs.Files.{written}
use Rattle.porch_edge.specs.Disk.{HasFront, TouchesOnly}
use Rattle.porch_gate.specs.Gates.{HasFirst, HasNoLetter, ReadsSameFirst, ReadsNow}
use Rattle.porch_store.specs.Checkpoints.{IsOpen}
use Rattle.porch_store.specs.Taken.{older_of}
use Rattle.porch_store.proofs.Commits.{the_gate, staying, fill_some, fill_front, fill_no_letter, fill_file, fill_keeps, fill_goes_on, fill_appended}
use Rattle.porch_store.proofs.store.Store.append.Goals as goal

pub write_behind-requires-clause-some : goal.write_behind-requires-clause-some
write_behind-requires-clause-some g c =
    let store = c.args.self.now in
    let s = g.D.Disk.state c.args.disk.now in
    subst (λ (f : FileName). HasFirst s f) (sym c.older-file.ensures) (fill_some store.newest store.number store.begun store.appended s s c.requires.ready)

pub write_behind-requires-clause-front : goal.write_behind-requires-clause-front
write_behind-requires-clause-front g c =
    let store = c.args.self.now in
    let s = g.D.Disk.state c.args.disk.now in
    subst (λ (f : FileName). HasFront s f) (sym c.older-file.ensures) (fill_front store.newest store.number store.begun store.appended s s c.requires.ready)

pub returns-in_err-write_behind-clause-one_file : goal.returns-in_err-write_behind-clause-one_file
returns-in_err-write_behind-clause-one_file g c =
    let store = c.args.self.now in
    let s = g.D.Disk.state c.args.disk.now in
    let t = g.D.Disk.state c.write_behind.new.disk in
    let shut : TouchesOnly s t (older_of store.newest) (λ _ x. ¬ IsOpen x) = subst (λ (f : FileName). TouchesOnly s t f (λ _ x. ¬ IsOpen x)) c.older-file.ensures
    (staying the_gate refl refl s t c.older-file.result
    (c.write_behind.ensures.closed the_gate (subst (λ (f : FileName). HasNoLetter s f the_gate) (sym c.older-file.ensures) (fill_no_letter store.newest store.number store.begun store.appended s t c.requires.ready the_gate refl)))) in
    λ start so_far. fill_file store.newest store.number store.begun store.appended s t c.requires.ready shut (g.D.Disk.state start) so_far

pub returns-in_err-write_behind-clause-moments : goal.returns-in_err-write_behind-clause-moments
returns-in_err-write_behind-clause-moments g c =
    let store = c.args.self.now in
    let s = g.D.Disk.state c.args.disk.now in
    let t = g.D.Disk.state c.write_behind.new.disk in
    let shut : TouchesOnly s t (older_of store.newest) (λ _ x. ¬ IsOpen x) = subst (λ (f : FileName). TouchesOnly s t f (λ _ x. ¬ IsOpen x)) c.older-file.ensures
    (staying the_gate refl refl s t c.older-file.result
    (c.write_behind.ensures.closed the_gate (subst (λ (f : FileName). HasNoLetter s f the_gate) (sym c.older-file.ensures) (fill_no_letter store.newest store.number store.begun store.appended s t c.requires.ready the_gate refl)))) in
    λ start so_far. fill_keeps store.newest store.number store.begun store.appended s t c.requires.ready shut (g.D.Disk.state start) so_far

pub returns-clause-one_file : goal.returns-clause-one_file
returns-clause-one_file g c =
    let store = c.args.self.now in
    let s = g.D.Disk.state c.args.disk.now in
    let t = g.D.Disk.state c.write_behind.new.disk in
    let shut : TouchesOnly s t (older_of store.newest) (λ _ x. ¬ IsOpen x) = subst (λ (f : FileName). TouchesOnly s t f (λ _ x. ¬ IsOpen x)) c.older-file.ensures
    (staying the_gate refl refl s t c.older-file.result
    (c.write_behind.ensures.closed the_gate (subst (λ (f : FileName). HasNoLetter s f the_gate) (sym c.older-file.ensures) (fill_no_letter store.newest store.number store.begun store.appended s t c.requires.ready the_gate refl)))) in
    λ start so_far. fill_file store.newest store.number store.begun store.appended s t c.requires.ready shut (g.D.Disk.state start) so_far

pub returns-clause-moments : goal.returns-clause-moments
returns-clause-moments g c =
    let store = c.args.self.now in
    let s = g.D.Disk.state c.args.disk.now in
    let t = g.D.Disk.state c.write_behind.new.disk in
    let shut : TouchesOnly s t (older_of store.newest) (λ _ x. ¬ IsOpen x) = subst (λ (f : FileName). TouchesOnly s t f (λ _ x. ¬ IsOpen x)) c.older-file.ensures
    (staying the_gate refl refl s t c.older-file.result
    (c.write_behind.ensures.closed the_gate (subst (λ (f : FileName). HasNoLetter s f the_gate) (sym c.older-file.ensures) (fill_no_letter store.newest store.number store.begun store.appended s t c.requires.ready the_gate refl)))) in
    λ start so_far. fill_keeps store.newest store.number store.begun store.appended s t c.requires.ready shut (g.D.Disk.state start) so_far

pub returns-clause-ready : goal.returns-clause-ready
returns-clause-ready g c =
    let store = c.args.self.now in
    let s = g.D.Disk.state c.args.disk.now in
    let t = g.D.Disk.state c.write_behind.new.disk in
    let shut : TouchesOnly s t (older_of store.newest) (λ _ x. ¬ IsOpen x) = subst (λ (f : FileName). TouchesOnly s t f (λ _ x. ¬ IsOpen x)) c.older-file.ensures
    (staying the_gate refl refl s t c.older-file.result
    (c.write_behind.ensures.closed the_gate (subst (λ (f : FileName). HasNoLetter s f the_gate) (sym c.older-file.ensures) (fill_no_letter store.newest store.number store.begun store.appended s t c.requires.ready the_gate refl)))) in
    let e = c.older-file.ensures in
    let first = subst (λ (f : FileName). ReadsSameFirst s t f) e c.write_behind.ensures.first in
    let front = subst (λ (f : FileName). HasFront t f) e c.write_behind.ensures.front in
    let now = subst (λ (f : FileName). ReadsNow s t f (λ old. written old (1 + store.appended) c.args.piece.now)) e c.in_ok-write_behind.ensures.now in
    fill_goes_on store.newest store.number store.begun store.appended s t c.requires.ready shut c.args.piece.now first front now

pub returns-clause-appended : goal.returns-clause-appended
returns-clause-appended g c =
    let store = c.args.self.now in
    let s = g.D.Disk.state c.args.disk.now in
    let t = g.D.Disk.state c.write_behind.new.disk in
    let shut : TouchesOnly s t (older_of store.newest) (λ _ x. ¬ IsOpen x) = subst (λ (f : FileName). TouchesOnly s t f (λ _ x. ¬ IsOpen x)) c.older-file.ensures
    (staying the_gate refl refl s t c.older-file.result
    (c.write_behind.ensures.closed the_gate (subst (λ (f : FileName). HasNoLetter s f the_gate) (sym c.older-file.ensures) (fill_no_letter store.newest store.number store.begun store.appended s t c.requires.ready the_gate refl)))) in
    let e = c.older-file.ensures in
    let first = subst (λ (f : FileName). ReadsSameFirst s t f) e c.write_behind.ensures.first in
    let front = subst (λ (f : FileName). HasFront t f) e c.write_behind.ensures.front in
    let now = subst (λ (f : FileName). ReadsNow s t f (λ old. written old (1 + store.appended) c.args.piece.now)) e c.in_ok-write_behind.ensures.now in
    λ bytes has. fill_appended store.newest store.number store.begun store.appended s t c.requires.ready shut c.args.piece.now first front now bytes has
