-- A write more keeps the counts, and what is kept of the Live snapshots.
use Rattle.std.proofs.Common.{◌≡◌, ◌<◌, ◌+◌, ℕ, suc, List, [], ◌∷◌, ◌++◌, length, Some, refl, sym, ap, ◌∙◌, arith, length-append, set}
use Rattle.std.specs.Prelude.{slice_get, slice_index_or, not, ◌==◌}
use Rattle.std.proofs.lemmas.Option.{get_or_from_slice_get}
use Rattle.std.proofs.lemmas.List.Filters.{length-filter_both}
use mathlib.Core.Logic.{dite}
use native.Mathlib.Decide.{ℕ_discrete}
use Rattle.sv_model.specs.declared.writes.Write.{Write}
use Rattle.sv_model.specs.declared.records.Snapshot.{Snapshot}
use Rattle.sv_model.specs.Journal.{of_family}
use Rattle.sv_model.proofs.Registers.{entry-same, entry-else}
use Rattle.sv_laws.proofs.BorneRows.{family-same, family-other}
use Rattle.sv_laws.proofs.SnapshotLaws.{cut-stays}
use Rattle.sv_journal.specs.declared.live.LiveSnapshot.{LiveSnapshot}
use Rattle.sv_journal.specs.Kept.{AreCounts, AreLive}

module _ (J : List Write) (w : Write) where
  longer : length (of_family w.family (J ++ w ∷ [])) ≡ length (of_family w.family J) + 1
  longer = ap (λ (l : List Write). length l) (family-same J w) ∙ length-append (of_family w.family J) (w ∷ [])

  module _ (counts : List ℕ) (h : AreCounts J counts) (within : w.family < 16) where
    pub was : slice_index_or counts w.family 0 ≡ length (of_family w.family J)
    was = get_or_from_slice_get counts w.family (length (of_family w.family J)) 0 (h w.family within)

    at : slice_get counts w.family ≡ Some (slice_index_or counts w.family 0)
    at = h w.family within ∙ ap Some (sym was)

    pub counts-grow : AreCounts (J ++ w ∷ []) (set counts w.family (slice_index_or counts w.family 0 + 1))
    counts-grow f few = dite (ℕ_discrete f w.family)
        (λ q.
        ap (slice_get (set counts w.family (slice_index_or counts w.family 0 + 1))) q
        ∙ entry-same counts (suc w.family) (slice_index_or counts w.family 0) (slice_index_or counts w.family 0 + 1) at
        ∙ ap Some (ap (λ k. k + 1) was ∙ sym longer ∙ ap (λ g. length (of_family g (J ++ w ∷ []))) (sym q)))
        (λ q.
        entry-else counts (suc w.family) (suc f) (slice_index_or counts w.family 0 + 1) (λ e. q (omega (arith, e)))
        ∙ h f few
        ∙ ap (λ (l : List Write). Some (length l)) (sym (family-other f J w (λ e. q (sym e)))))

    pub number-is : slice_index_or counts w.family 0 + 1 ≡ length (of_family w.family (J ++ w ∷ []))
    number-is = omega (arith, was, longer)

    pub count-fits : length J < 262144 → slice_index_or counts w.family 0 < 262144
    count-fits few = omega (arith, was, few, length-filter_both (λ (v : Write). v.family == w.family) (λ v. not (v.family == w.family)) (λ v. refl) J)

  pub live-grow : (S : List Snapshot) (live : List LiveSnapshot) → AreLive J S live → AreLive (J ++ w ∷ []) S live
  live-grow S live h = record {
    each = h.each;
    all = h.all;
    order = h.order;
    cuts = λ i r e. let c = h.cuts i r e in record {
      within = omega (arith, c.within, length-append J (w ∷ []));
      cuts = λ f few. c.cuts f few ∙ ap Some (sym (cut-stays J (J ++ w ∷ []) (w ∷ [], refl) r.at f c.within));
    };
    count = h.count;
    few = h.few;
    made = h.made;
  }
