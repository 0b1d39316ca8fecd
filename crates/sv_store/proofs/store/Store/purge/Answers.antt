use Rattle.std.proofs.Common.{◌≡◌, ℕ, List, Some, None, refl, sym, ap, subst}
use Rattle.std.specs.Prelude.{IfSome}
use Rattle.sv_model.specs.Lists.{In}
use Rattle.sv_model.specs.Numbers.{AreInOrder, IsReady}
use Rattle.sv_model.specs.Refusals.{IsDue, RefusesExactly}
use Rattle.sv_files.specs.Calls.{disabled}
use Rattle.sv_state.specs.Seen.{StateSeen}
use Rattle.sv_store.specs.HeldFiles.{IsHeld, LeavesOthers}
use Rattle.sv_store.specs.Removals.{RemovesSome}
use Rattle.sv_store.specs.Seen.{StoreSeen}
use Rattle.sv_store.proofs.AbsentFiles.{same-leaves}
use Rattle.sv_store.proofs.FrameLaws.{files-rests}
use Rattle.sv_store.proofs.HeldPurges.{tried-held, tried-leaves}
use Rattle.sv_store.proofs.PurgeLaws.{refused-purge, removed-still, some-tried}
use Rattle.sv_store.proofs.RemovalSteps.{dir_seen}
use Rattle.sv_store.proofs.store.Store.purge.Goals as goal
use Rattle.sv_store.proofs.store.Store.purge.Goals.{in-None, in-Some}

pub returns-in-Err-clause-stops : goal.returns-in-Err-clause-stops
returns-in-Err-clause-stops g c =
    let files = g.D.Dir.files c.args.dir.now in
    let faults = g.D.Dir.faults c.args.dir.now in
    refused-purge c.args.self.now.books.files (dir_seen files files faults faults)
    (record { same = refl; untouched = record { files = refl; faults = refl } }) c.in-Err.refusal
    (subst (λ (z : StoreSeen). IsDue (disabled z.books.files) c.in-Err.refusal) c.self.view_is c.in-Err.ensures.refused)

pub returns-in-Err-clause-held : goal.returns-in-Err-clause-held
returns-in-Err-clause-held g c =
    let F = g.D.Dir.files c.args.dir.now in
    subst (λ (z : StoreSeen). IsHeld z.books F → IsHeld z.books F) c.self.view_is (λ held. held)

pub returns-in-Err-clause-others : goal.returns-in-Err-clause-others
returns-in-Err-clause-others g c =
    let F = g.D.Dir.files c.args.dir.now in
    subst (λ (z : StoreSeen). LeavesOthers z.books z.books F F) c.self.view_is
    (same-leaves c.self.inside.state.books c.self.inside.state.books (λ n has. has) F)

pub returns-in-Err-clause-none : goal.returns-in-Err-clause-none
returns-in-Err-clause-none g c = λ no.
    subst (λ (z : StoreSeen). disabled z.books.files ≡ Some c.in-Err.refusal) c.self.view_is
    (c.in-Err.ensures.none (subst (λ (z : StoreSeen). (n : ℕ) → IsReady z.books.files n → ⊥) (sym c.self.view_is) no))

pub invariant_of-self : goal.invariant_of-self
invariant_of-self g c =
    let k = c.remove_each in
    let a = c.self.inside.state.books in
    files-rests a k.new.state.books c.self.inside.cells c.self.invariant k.ensures.follows.sound (ap (λ (z : StateSeen). z.books) k.ensures.rest)
    (removed-still k.result a.files k.new.state.books.files
    (dir_seen (g.D.Dir.files c.args.dir.now) (g.D.Dir.files k.new.dir) (g.D.Dir.faults c.args.dir.now) (g.D.Dir.faults k.new.dir))
    c.as_slice.result.now k.ensures.all k.ensures.some c.self.invariant.still)

pub returns-clause-none : goal.returns-clause-none
returns-clause-none g c = λ no.
    let k = c.remove_each in
    let a = c.self.inside.state.books.files in
    let d = dir_seen (g.D.Dir.files c.args.dir.now) (g.D.Dir.files k.new.dir) (g.D.Dir.faults c.args.dir.now) (g.D.Dir.faults k.new.dir) in
    elim c.match-remove_each.branch [
      | in-None w ↦
          subst (RefusesExactly (disabled c.args.self.now.books.files)) (sym w.result-is)
          (subst (λ (z : StoreSeen). disabled z.books.files ≡ None) c.self.view_is c.in-Ok.ensures.refused)
      | in-Some w ↦
          let t = some-tried a k.new.state.books.files d c.as_slice.result.now w.in-Some.refusal
          (subst (λ o. IfSome o (RemovesSome a k.new.state.books.files d c.as_slice.result.now)) w.in-Some.is k.ensures.some) in
          absurd ((subst (λ (z : StoreSeen). (n : ℕ) → IsReady z.books.files n → ⊥) (sym c.self.view_is) no) t.0
          ((c.in-Ok.ensures.ready.exact t.0).0 (subst (λ (l : List ℕ). In t.0 l) c.as_slice.ensures.value t.1)))
    ]

pub returns-clause-held : goal.returns-clause-held
returns-clause-held g c =
    let k = c.remove_each in
    let a = c.self.inside.state.books in
    let b = k.new.state.books in
    let F = g.D.Dir.files c.args.dir.now in
    let G = g.D.Dir.files k.new.dir in
    subst (λ (z : StoreSeen). IsHeld z.books F → IsHeld b G) c.self.view_is
    (tried-held a b c.self.invariant.stands.sound.lawful k.ensures.follows F G (g.D.Dir.faults c.args.dir.now) (g.D.Dir.faults k.new.dir)
    k.result c.as_slice.result.now
    (subst (λ (l : List ℕ). AreInOrder (IsReady a.files) l) (sym c.as_slice.ensures.value) c.in-Ok.ensures.ready) k.ensures.all k.ensures.some)

pub returns-clause-others : goal.returns-clause-others
returns-clause-others g c =
    let k = c.remove_each in
    let a = c.self.inside.state.books in
    let b = k.new.state.books in
    let F = g.D.Dir.files c.args.dir.now in
    let G = g.D.Dir.files k.new.dir in
    subst (λ (z : StoreSeen). LeavesOthers z.books b F G) c.self.view_is
    (tried-leaves a b c.self.invariant.stands.sound.lawful k.ensures.follows F G (g.D.Dir.faults c.args.dir.now) (g.D.Dir.faults k.new.dir)
    k.result c.as_slice.result.now
    (subst (λ (l : List ℕ). AreInOrder (IsReady a.files) l) (sym c.as_slice.ensures.value) c.in-Ok.ensures.ready) k.ensures.all k.ensures.some)
