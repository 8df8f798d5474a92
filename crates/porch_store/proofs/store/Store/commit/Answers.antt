use Rattle.std.proofs.Common.{ℕ, List, [], sym, ◌∙◌, subst}
use Rattle.porch_edge.specs.Disk.{TouchesOnly, HasNow}
use Rattle.porch_store.specs.declared.newest.Newest.{Newest}
use Rattle.porch_store.specs.Checkpoints.{whole_file}
use Rattle.porch_store.specs.Stores.{HasAppended}
use Rattle.porch_store.specs.Taken.{older_of, OldOrShut, OldClosedOrWhole, KeepsOld, KeepsOldOrNew}
use Rattle.porch_store.proofs.Commits.{old_file, old_kept, made_last, on_ok}
use Rattle.porch_store.proofs.store.Store.commit.Goals as goal

pub returns-in_err-begin-clause-one_file : goal.returns-in_err-begin-clause-one_file
returns-in_err-begin-clause-one_file g c =
    old_file c.args.bytes.now (g.D.Disk.state c.args.disk.now) (g.D.Disk.state c.begin.new.disk) (older_of c.args.self.now.newest) c.begin.ensures.one_file

pub returns-in_err-begin-clause-moments : goal.returns-in_err-begin-clause-moments
returns-in_err-begin-clause-moments g c =
    old_kept c.args.self.now.newest c.args.bytes.now (g.D.Disk.state c.args.disk.now) (g.D.Disk.state c.begin.new.disk) c.begin.ensures.moments

pub returns-in_err-append-clause-one_file : goal.returns-in_err-append-clause-one_file
returns-in_err-append-clause-one_file g c =
    let s0 = g.D.Disk.state c.args.disk.now in
    let s1 = g.D.Disk.state c.begin.new.disk in
    let s2 = g.D.Disk.state c.append.new.disk in
    let e1 = c.begin.ensures.known in
    let file = subst (λ (n : Newest). TouchesOnly s0 s2 (older_of n) OldOrShut) e1 (c.append.ensures.one_file c.args.disk.now (subst (λ (n : Newest). TouchesOnly s0 s1 (older_of n) OldOrShut) (sym e1) c.begin.ensures.one_file)) in
    old_file c.args.bytes.now s0 s2 (older_of c.args.self.now.newest) file

pub returns-in_err-append-clause-moments : goal.returns-in_err-append-clause-moments
returns-in_err-append-clause-moments g c =
    let s0 = g.D.Disk.state c.args.disk.now in
    let s1 = g.D.Disk.state c.begin.new.disk in
    let s2 = g.D.Disk.state c.append.new.disk in
    let e1 = c.begin.ensures.known in
    let kept = subst (λ (n : Newest). KeepsOld n s0 s2) e1 (c.append.ensures.moments c.args.disk.now (subst (λ (n : Newest). KeepsOld n s0 s1) (sym e1) c.begin.ensures.moments)) in
    old_kept c.args.self.now.newest c.args.bytes.now s0 s2 kept

pub returns-clause-one_file : goal.returns-clause-one_file
returns-clause-one_file g c =
    let s0 = g.D.Disk.state c.args.disk.now in
    let s1 = g.D.Disk.state c.begin.new.disk in
    let s2 = g.D.Disk.state c.append.new.disk in
    let e1 = c.begin.ensures.known in
    let file = subst (λ (n : Newest). TouchesOnly s0 s2 (older_of n) OldOrShut) e1 (c.append.ensures.one_file c.args.disk.now (subst (λ (n : Newest). TouchesOnly s0 s1 (older_of n) OldOrShut) (sym e1) c.begin.ensures.one_file)) in
    let s3 = g.D.Disk.state c.finish.new.disk in
    let e2 = c.append.ensures.known ∙ e1 in
    let bytes = c.args.bytes.now in
    let has = c.in_ok-append.ensures.appended [] c.in_ok-begin.ensures.appended in
    subst (λ (n : Newest). TouchesOnly s0 s3 (older_of n) (OldClosedOrWhole bytes)) e2
    (c.finish.ensures.one_file c.args.disk.now bytes has (subst (λ (n : Newest). TouchesOnly s0 s2 (older_of n) OldOrShut) (sym e2) file))

pub returns-clause-moments : goal.returns-clause-moments
returns-clause-moments g c =
    let s0 = g.D.Disk.state c.args.disk.now in
    let s1 = g.D.Disk.state c.begin.new.disk in
    let s2 = g.D.Disk.state c.append.new.disk in
    let e1 = c.begin.ensures.known in
    let kept = subst (λ (n : Newest). KeepsOld n s0 s2) e1 (c.append.ensures.moments c.args.disk.now (subst (λ (n : Newest). KeepsOld n s0 s1) (sym e1) c.begin.ensures.moments)) in
    let s3 = g.D.Disk.state c.finish.new.disk in
    let e2 = c.append.ensures.known ∙ e1 in
    let bytes = c.args.bytes.now in
    let has = c.in_ok-append.ensures.appended [] c.in_ok-begin.ensures.appended in
    subst (λ (n : Newest). KeepsOldOrNew n bytes s0 s3) e2 (c.finish.ensures.moments c.args.disk.now bytes has (subst (λ (n : Newest). KeepsOld n s0 s2) (sym e2) kept))

pub returns-clause-now : goal.returns-clause-now
returns-clause-now g c =
    let s0 = g.D.Disk.state c.args.disk.now in
    let s1 = g.D.Disk.state c.begin.new.disk in
    let s2 = g.D.Disk.state c.append.new.disk in
    let e1 = c.begin.ensures.known in
    let file = subst (λ (n : Newest). TouchesOnly s0 s2 (older_of n) OldOrShut) e1 (c.append.ensures.one_file c.args.disk.now (subst (λ (n : Newest). TouchesOnly s0 s1 (older_of n) OldOrShut) (sym e1) c.begin.ensures.one_file)) in
    let s3 = g.D.Disk.state c.finish.new.disk in
    let e2 = c.append.ensures.known ∙ e1 in
    let bytes = c.args.bytes.now in
    let has = c.in_ok-append.ensures.appended [] c.in_ok-begin.ensures.appended in
    let taken = older_of c.args.self.now.newest in
    on_ok c.finish.result
    ((x : List ℕ) → HasAppended c.append.new.self x s2 → HasNow s2 s3 (older_of c.append.new.self.newest) (λ _. whole_file x)) (HasNow s0 s3 taken (λ _. whole_file bytes))
    (λ now. made_last s0 s2 s3 taken OldOrShut (whole_file bytes) file (subst (λ (n : Newest). HasNow s2 s3 (older_of n) (λ _. whole_file bytes)) e2 (now bytes has))) c.finish.ensures.now
