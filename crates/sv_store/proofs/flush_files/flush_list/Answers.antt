-- The file is due over the list, and what each end leaves.
use Rattle.std.proofs.Common.{inl, inr, ℕ, List, Global, sym, ap, ◌∙◌, subst}
use Rattle.std.specs.declared.sync.Arc.{Arc}
use Rattle.sv_model.specs.declared.records.FileStatus.TheVariants.{Obsolete}
use Rattle.sv_model.specs.declared.writes.Row.{Row}
use Rattle.sv_model.specs.Cells.{Cell}
use Rattle.sv_laws.specs.Captures.{IsGivenUp}
use Rattle.sv_objects.specs.declared.bodies.Body.{Body}
use Rattle.sv_outputs.specs.Flushing.{IsFlushDue, rows_in}
use Rattle.sv_state.specs.Currents.{HasCurrentAt}
use Rattle.sv_store.proofs.FlushFiles.{begins, due-own, due-rows, plans}
use Rattle.sv_store.proofs.FlushedLaws.{flushed-still, given-still, same-family}
use Rattle.sv_store.proofs.OutputLaws.{can-install, captured-here, captured-open, given-stands, ref-body}
use Rattle.sv_store.proofs.StandLaws.{follows-through}
use Rattle.sv_store.proofs.flush_files.flush_list.Goals as goal

pub write_flush-requires : goal.write_flush-requires
write_flush-requires g c =
    let a = c.args.state.now.books in
    let m = c.flush_begin.new.self.books in
    let f = c.args.family in
    let file = c.in-Ok.file in
    let h = c.in-Ok.ensures.begun in
    let k = c.requires.stands.sound in
    let o = captured-open a m f file h.captured h.s h.c h.is_open in
    let at : HasCurrentAt m f = record { top = o.current.top; at = o.current.at; serial = h.s; is = o.current.is } in
    let body = c.current.result.now.body.value in
    let w = ref-body m h.s c.current.result.now.pack body h.c (c.current.ensures at) o.current.has in
    let rows = ap (λ (xs : List (ℕ × Arc Cell Global)). rows_in xs) c.as_slice.ensures ∙ ap (λ (z : Body). rows_in z.frozen) c.deref.ensures
    ∙ due-rows a m k f file h body w in
    subst (λ (rs : List Row). IsFlushDue rs file) (sym rows) (c.planned_flush_is_due.ensures.due a h.c.descriptor file k.lawful (plans a m k f file h))

-- ---- the file was not written

pub output_failed-requires : goal.output_failed-requires
output_failed-requires g c =
    let a = c.args.state.now.books in
    let m = c.flush_begin.new.self.books in
    let f = c.args.family in
    let file = c.in-Ok.file in
    let h = c.in-Ok.ensures.begun in
    record { family = f; is = captured-here a m f file h.captured }

pub returns-in-Err-write_flush-clause-stopped : goal.returns-in-Err-write_flush-clause-stopped
returns-in-Err-write_flush-clause-stopped g c =
    let a = c.args.state.now.books in
    let m = c.flush_begin.new.self.books in
    let f = c.args.family in
    let file = c.in-Ok.file in
    let h = c.in-Ok.ensures.begun in
    let k = c.requires.stands.sound in
    let can = can-install a m f file h.captured c.args.cells.now c.requires.stands c.flush_begin.ensures.follows.sound h.s h.c h.is_open in
    let u = c.output_failed.ensures.given_up in
    let b = c.output_failed.new.self.books in
    let given = subst (λ n. IsGivenUp m b n file.number) (sym (same-family m c.args.cells.now f u.0 file can Obsolete _ u.1.settled)) u.1 in
    inr (record { file = file; mid = m; begins = begins a m k f file h c.requires.emptied; given_up = given; why = inl c.in-Err-write_flush.ensures.refused })

pub returns-in-Err-write_flush-clause-rests : goal.returns-in-Err-write_flush-clause-rests
returns-in-Err-write_flush-clause-rests g c =
    let a = c.args.state.now.books in
    let m = c.flush_begin.new.self.books in
    let f = c.args.family in
    let file = c.in-Ok.file in
    let h = c.in-Ok.ensures.begun in
    let can = can-install a m f file h.captured c.args.cells.now c.requires.stands c.flush_begin.ensures.follows.sound h.s h.c h.is_open in
    let u = c.output_failed.ensures.given_up in
    let b = c.output_failed.new.self.books in
    let given = subst (λ n. IsGivenUp m b n file.number) (sym (same-family m c.args.cells.now f u.0 file can Obsolete _ u.1.settled)) u.1 in
    record {
      stands = given-stands m b c.args.cells.now can.stands c.output_failed.ensures.follows.sound f file.number given;
      still = given-still a m b f file h.captured c.requires.still given;
    }

pub returns-in-Err-write_flush-clause-follows : goal.returns-in-Err-write_flush-clause-follows
returns-in-Err-write_flush-clause-follows g c =
    follows-through c.args.state.now.books c.flush_begin.new.self.books c.output_failed.new.self.books c.flush_begin.ensures.follows c.output_failed.ensures.follows

-- ---- the file was written

pub install_flushed-requires-clause-can : goal.install_flushed-requires-clause-can
install_flushed-requires-clause-can g c =
    let a = c.args.state.now.books in
    let m = c.flush_begin.new.self.books in
    let f = c.args.family in
    let file = c.in-Ok.file in
    let h = c.in-Ok.ensures.begun in
    let can = can-install a m f file h.captured c.args.cells.now c.requires.stands c.flush_begin.ensures.follows.sound h.s h.c h.is_open in
    (f, can)

pub returns-in-Ok-install_flushed-clause-flushed : goal.returns-in-Ok-install_flushed-clause-flushed
returns-in-Ok-install_flushed-clause-flushed g c =
    let a = c.args.state.now.books in
    let m = c.flush_begin.new.self.books in
    let f = c.args.family in
    let file = c.in-Ok.file in
    let h = c.in-Ok.ensures.begun in
    let k = c.requires.stands.sound in
    let o = captured-open a m f file h.captured h.s h.c h.is_open in
    let at : HasCurrentAt m f = record { top = o.current.top; at = o.current.at; serial = h.s; is = o.current.is } in
    let body = c.current.result.now.body.value in
    let w = ref-body m h.s c.current.result.now.pack body h.c (c.current.ensures at) o.current.has in
    let rows = ap (λ (xs : List (ℕ × Arc Cell Global)). rows_in xs) c.as_slice.ensures ∙ ap (λ (z : Body). rows_in z.frozen) c.deref.ensures
    ∙ due-rows a m k f file h body w in
    let own = due-own a m k f file h (rows_in c.as_slice.result.now) rows (c.planned_flush_is_due.ensures.own a h.c.descriptor file k.lawful (plans a m k f file h)) in
    let text = c.in-Ok-write_flush.ensures.flat a.journal f own in
    let can = can-install a m f file h.captured c.args.cells.now c.requires.stands c.flush_begin.ensures.follows.sound h.s h.c h.is_open in
    record {
      mid = m;
      begins = begins a m k f file h c.requires.emptied;
      puts = record { bytes = text.0; text = text.1; put = text.2 };
      renews = c.in-Ok-install_flushed.ensures.flushed f can;
    }

pub returns-in-Ok-install_flushed-clause-rests : goal.returns-in-Ok-install_flushed-clause-rests
returns-in-Ok-install_flushed-clause-rests g c =
    let a = c.args.state.now.books in
    let m = c.flush_begin.new.self.books in
    let f = c.args.family in
    let file = c.in-Ok.file in
    let h = c.in-Ok.ensures.begun in
    let can = can-install a m f file h.captured c.args.cells.now c.requires.stands c.flush_begin.ensures.follows.sound h.s h.c h.is_open in
    record {
      stands = c.install_flushed.ensures.stands;
      still = flushed-still a m c.install_flushed.new.state.books f file h.captured c.requires.still (c.in-Ok-install_flushed.ensures.flushed f can);
    }

pub returns-in-Ok-install_flushed-clause-follows : goal.returns-in-Ok-install_flushed-clause-follows
returns-in-Ok-install_flushed-clause-follows g c =
    follows-through c.args.state.now.books c.flush_begin.new.self.books c.install_flushed.new.state.books c.flush_begin.ensures.follows c.install_flushed.ensures.follows

pub returns-in-Err-install_flushed-clause-stopped : goal.returns-in-Err-install_flushed-clause-stopped
returns-in-Err-install_flushed-clause-stopped g c =
    let a = c.args.state.now.books in
    let m = c.flush_begin.new.self.books in
    let f = c.args.family in
    let file = c.in-Ok.file in
    let h = c.in-Ok.ensures.begun in
    let k = c.requires.stands.sound in
    let o = captured-open a m f file h.captured h.s h.c h.is_open in
    let at : HasCurrentAt m f = record { top = o.current.top; at = o.current.at; serial = h.s; is = o.current.is } in
    let body = c.current.result.now.body.value in
    let w = ref-body m h.s c.current.result.now.pack body h.c (c.current.ensures at) o.current.has in
    let rows = ap (λ (xs : List (ℕ × Arc Cell Global)). rows_in xs) c.as_slice.ensures ∙ ap (λ (z : Body). rows_in z.frozen) c.deref.ensures
    ∙ due-rows a m k f file h body w in
    let own = due-own a m k f file h (rows_in c.as_slice.result.now) rows (c.planned_flush_is_due.ensures.own a h.c.descriptor file k.lawful (plans a m k f file h)) in
    let text = c.in-Ok-write_flush.ensures.flat a.journal f own in
    let can = can-install a m f file h.captured c.args.cells.now c.requires.stands c.flush_begin.ensures.follows.sound h.s h.c h.is_open in
    inr (record {
      file = file;
      mid = m;
      begins = begins a m k f file h c.requires.emptied;
      given_up = c.in-Err-install_flushed.ensures.given_up f can;
      why = inr (record { bytes = text.0; text = text.1; put = text.2 }, c.in-Err-install_flushed.ensures.refused);
    })

pub returns-in-Err-install_flushed-clause-rests : goal.returns-in-Err-install_flushed-clause-rests
returns-in-Err-install_flushed-clause-rests g c =
    let a = c.args.state.now.books in
    let m = c.flush_begin.new.self.books in
    let f = c.args.family in
    let file = c.in-Ok.file in
    let h = c.in-Ok.ensures.begun in
    let can = can-install a m f file h.captured c.args.cells.now c.requires.stands c.flush_begin.ensures.follows.sound h.s h.c h.is_open in
    record {
      stands = c.install_flushed.ensures.stands;
      still = given-still a m c.install_flushed.new.state.books f file h.captured c.requires.still (c.in-Err-install_flushed.ensures.given_up f can);
    }

pub returns-in-Err-install_flushed-clause-follows : goal.returns-in-Err-install_flushed-clause-follows
returns-in-Err-install_flushed-clause-follows g c =
    follows-through c.args.state.now.books c.flush_begin.new.self.books c.install_flushed.new.state.books c.flush_begin.ensures.follows c.install_flushed.ensures.follows
