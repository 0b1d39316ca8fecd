use Rattle.std.proofs.Common.{◌∙◌, ℕ, List, map, sym, ap, subst}
use Rattle.sv_model.specs.declared.openings.OpenFamily.{OpenFamily}
use Rattle.sv_model.specs.Lists.{Every}
use Rattle.sv_model.specs.Numbers.{FilesStand}
use Rattle.sv_version.specs.Changes.{live_version}
use Rattle.sv_version.specs.KeptVersions.{IsSound}
use Rattle.sv_files.specs.Calls.{AreNamed, live_file, opened}
use Rattle.sv_family.specs.Openings.{AreOpen}
use Rattle.sv_state.specs.Openings.{opening_numbers}
use Rattle.sv_state.specs.Views.{books_of}
use Rattle.sv_state.proofs.OpenBooks.{named-numbers, open-families, sound-files}
use Rattle.sv_state.proofs.OpenStates.{IsOpened, state-opened}
use Rattle.sv_state.proofs.state.State.from_opening.Goals as goal

pub named-requires-clause-named : goal.named-requires-clause-named
named-requires-clause-named c =
    let numbers = c.as_slice.ensures.value ∙ c.in_ok-numbers.ensures ∙ ap (opening_numbers 0) c.as_slice-kept.ensures.value in
    subst (AreNamed c.args.next) (sym numbers) (named-numbers c.args.opening c.args.next c.requires)

pub from_open-requires : goal.from_open-requires
from_open-requires c = subst AreOpen (sym c.as_slice-kept.ensures.value) (open-families c.args.opening c.args.next c.requires)

pub of-requires-clause-sound : goal.of-requires-clause-sound
of-requires-clause-sound c =
    let files = c.in_ok-files.ensures ∙ ap (λ (l : List (ℕ × ℕ)). opened c.args.next (map live_file l)) (c.as_slice.ensures.value ∙ c.in_ok-numbers.ensures ∙ ap (opening_numbers 0) c.as_slice-kept.ensures.value) in
    subst (λ (l : List OpenFamily). Every (λ f. IsSound (live_version f.files.items)) l) (sym c.as_slice-kept.ensures.value)
    (sound-files c.args.next c.args.opening.families.items c.requires.each (subst FilesStand files c.laws.ensures))

pub invariant_of-result : goal.invariant_of-result
invariant_of-result c =
    (state-opened c.args.opening c.args.next c.requires c.as_slice-kept.result.now c.as_slice-kept.ensures.value
    c.in_ok-files.files (c.in_ok-files.ensures ∙ ap (λ (l : List (ℕ × ℕ)). opened c.args.next (map live_file l)) (c.as_slice.ensures.value ∙ c.in_ok-numbers.ensures)) c.laws.ensures
    c.in_ok-families.families c.in_ok-families.ensures.families c.in_ok-families.ensures.lawful
    c.in_ok-begun.begun c.in_ok-begun.ensures.begun c.in_ok-begun.ensures.files
    c.in_ok-metas.metas.items c.in_ok-metas.ensures c.in_ok-journal.journal.writes c.in_ok-journal.ensures.writes c.in_ok-journal.journal.snapshots c.in_ok-journal.ensures.snapshots).state

all : (c : goal.After-drop-opening-2) → IsOpened c.args.opening.families.items c.args.next (books_of (record { alloc = c.args.alloc; journal = c.in_ok-journal.journal; objects = c.in_ok-begun.begun.objects; metas = c.in_ok-metas.metas; families = c.in_ok-families.families; tops = c.in_ok-begun.begun.tops; held = c.in_ok-begun.begun.held })) c.in_ok-begun.begun.held.items
all c =
    state-opened c.args.opening c.args.next c.requires c.as_slice-kept.result.now c.as_slice-kept.ensures.value
    c.in_ok-files.files (c.in_ok-files.ensures ∙ ap (λ (l : List (ℕ × ℕ)). opened c.args.next (map live_file l)) (c.as_slice.ensures.value ∙ c.in_ok-numbers.ensures)) c.laws.ensures
    c.in_ok-families.families c.in_ok-families.ensures.families c.in_ok-families.ensures.lawful
    c.in_ok-begun.begun c.in_ok-begun.ensures.begun c.in_ok-begun.ensures.files
    c.in_ok-metas.metas.items c.in_ok-metas.ensures c.in_ok-journal.journal.writes c.in_ok-journal.ensures.writes c.in_ok-journal.journal.snapshots c.in_ok-journal.ensures.snapshots

pub returns-clause-books : goal.returns-clause-books
returns-clause-books c = (all c).books

pub returns-clause-opening : goal.returns-clause-opening
returns-clause-opening c = (all c).opening

pub returns-clause-sound : goal.returns-clause-sound
returns-clause-sound c = (all c).sound
