-- Commands on families, holds, lists of files and snapshots that are answered, from the change of the books that they make.
use Rattle.std.proofs.Common.{◌≡◌, ◌<◌, ◌+◌, ℕ, true, false, List, length, Some, None, refl, sym, ◌∙◌, ap, subst}
use Rattle.std.specs.Prelude.{slice_get, slice_set}
use Rattle.sv_model.specs.declared.records.Family.{Family}
use Rattle.sv_model.specs.declared.records.Snapshot.{Snapshot}
use Rattle.sv_model.specs.declared.settings.OptionName.{OptionName}
use Rattle.sv_model.specs.declared.settings.Options.{Options}
use Rattle.sv_model.specs.After.{After}
use Rattle.sv_model.specs.Books.{Books}
use Rattle.sv_model.specs.Families.{IsOwn}
use Rattle.sv_model.specs.Journal.{by_lane}
use Rattle.sv_model.specs.Steady.{Sound}
use Rattle.sv_model.proofs.Entries.{some}
use Rattle.sv_laws.specs.Families.{IsDropped, IsOpened, released}
use Rattle.sv_laws.specs.NewCurrents.{IsFamilyMade, IsOptionSet}
use Rattle.sv_laws.specs.Snapping.{IsSnapped, IsUnsnapped}
use Rattle.sv_script.specs.declared.commands.Command.TheVariants as command
use Rattle.sv_script.specs.declared.replies.Reply.TheVariants as reply
use Rattle.sv_replies.specs.Answers.{Answers, KnowsAll, NoneGone}
use Rattle.sv_replies.specs.Due.{due}
use Rattle.sv_replies.specs.Known.{Known, as_dropped, has_handle, learn, learns, met, with_at, with_handle}
use Rattle.sv_replies.specs.Knows.{AllAreOwn, OwnAre}
use Rattle.sv_replies.specs.ReplyFits.{ReplyFits}
use Rattle.sv_replies.specs.SetLaw.{value_of}
use Rattle.sv_replies.specs.Settings.{Setting}
use Rattle.sv_replies.proofs.AloneLemmas.{alone-hold, alone-kept, alone-snap, alone-unsnap}
use Rattle.sv_replies.proofs.FamilyLemmas.{create-fits, create-knows, drop-fits, drop-knows, open-fits, open-knows, release-fits, release-knows, set-fits, set-knows}
use Rattle.sv_replies.proofs.FindsLemmas.{adds-none}
use Rattle.sv_replies.proofs.HoldLemmas.{hold-fits, unhold-fits}
use Rattle.sv_replies.proofs.KnowsLaws.{knows-later}
use Rattle.sv_replies.proofs.LearnLaws.{knows-counts, of_handle}
use Rattle.sv_replies.proofs.OwnHandles.{keeps-set, own-create, own-drop, own-hold, own-open, own-release}
use Rattle.sv_replies.proofs.OwnLemmas.{keeps-all, own-kept}
use Rattle.sv_replies.proofs.SnapLemmas.{snap-fits, snap-knows, unsnap-fits, unsnap-knows}
use Rattle.sv_replies.proofs.AnswersLaws.{KeepsAll, SameOwn, all-kept, none-asked, same-known}

-- ---- families

module _ (s : Setting) (a b : Books) (k : Known) (h : KnowsAll s a k) (after : After a b) (name : List ℕ) where
  pub create-answers : (r : Family) (id : ℕ) → IsFamilyMade a b r → IsOwn s.lane name r → k.handles name ≡ None
      → id ≡ length a.families
      → Answers s a b k (command.Create name) (reply.Create id)
  create-answers r id is own free number = record {
    fits = create-fits a b r is s k name id h.knows own.name_is free number;
    still = record {
      knows = create-knows a b r is k name id after h.knows own.name_is number;
      own =
          own-kept s.lane b b (has_handle name id k) (learn k (command.Create name) (reply.Create id)) (keeps-all s.lane b b refl refl refl) refl refl refl
          (subst (λ n. OwnAre s.lane b (has_handle name n k)) (sym number) (own-create s.lane a b k h.own name free r is own));
      alone = λ one. alone-kept a b k (learn k (command.Create name) (reply.Create id)) (ap (λ (x : Books). x.snapshots) is.is) (ap (λ (x : Books). x.files.holds) is.is) refl (λ n e. e) refl (h.alone one);
    };
    asked = none-asked s a b k (command.Create name) (reply.Create id) (ap (λ (x : Books). by_lane s.lane x.journal) is.is) refl;
    own = adds-none s.lane a b (ap (λ (x : Books). x.journal) is.is);
    finds = tt;
  }

  pub open-answers : (f : ℕ) (is : IsOpened a b f s.lane) → is.it.name ≡ name → s.lane < length is.it.handles
      → k.handles name ≡ None
      → due k (command.Open name) ≡ None → Answers s a b k (command.Open name) (reply.Open f)
  open-answers f is named within free none = record {
    fits = open-fits a b f s.lane is s k name named none;
    still = record {
      knows = open-knows a b f s.lane is k name after h.knows named;
      own = own-open s.lane a b k h.own name free f is named within;
      alone = λ one. alone-kept a b k (has_handle name f k) (ap (λ (x : Books). x.snapshots) is.is) (ap (λ (x : Books). x.files.holds) is.is) refl (λ n e. e) refl (h.alone one);
    };
    asked = none-asked s a b k (command.Open name) (reply.Open f) (ap (λ (x : Books). by_lane s.lane x.journal) is.is) refl;
    own = adds-none s.lane a b (ap (λ (x : Books). x.journal) is.is);
    finds = tt;
  }

  -- whether the family is retired by it or not
  pub release-answers : (f : ℕ) (it : Family) → slice_get a.families f ≡ Some it
      → slice_get it.handles s.lane ≡ Some true → it.name ≡ name
      → b.families ≡ slice_set a.families f (released it s.lane) → b.files.holds ≡ a.files.holds
      → b.journal ≡ a.journal → b.snapshots ≡ a.snapshots
      → due k (command.Release name) ≡ None → Answers s a b k (command.Release name) reply.Release
  release-answers f it at handle named families holds journal snapshots none = record {
    fits = release-fits s b k name none;
    still = record {
      knows = release-knows a b k name after h.knows;
      own = own-release s.lane a b k h.own name f it at handle named families holds journal;
      alone = λ one. alone-kept a b k (record k { handles = with_handle k.handles name None }) snapshots holds refl (λ n e. e) refl (h.alone one);
    };
    asked = none-asked s a b k (command.Release name) reply.Release (ap (by_lane s.lane) journal) refl;
    own = adds-none s.lane a b journal;
    finds = tt;
  }

  pub drop-answers : (f : ℕ) → IsDropped a b f s.lane → k.handles name ≡ Some f → due k (command.Drop name) ≡ None
      → Answers s a b k (command.Drop name) reply.Drop
  drop-answers f is has none = record {
    fits = drop-fits a b f s.lane is s k name has none;
    still = record {
      knows = drop-knows a b f s.lane is k name after h.knows has;
      own = of_handle (λ z. OwnAre s.lane b (learns as_dropped z k)) (k.handles name) f has (own-drop s.lane a b k f s.lane is h.own);
      alone = λ one. of_handle (λ z. AllAreOwn b (learns as_dropped z k)) (k.handles name) f has
          (alone-kept a b k (learns as_dropped (Some f) k) (ap (λ (x : Books). x.snapshots) is.is) (ap (λ (x : Books). x.files.holds) is.is) refl (λ n e. e) refl (h.alone one));
    };
    asked = none-asked s a b k (command.Drop name) reply.Drop (ap (λ (x : Books). by_lane s.lane x.journal) is.is) refl;
    own = adds-none s.lane a b (ap (λ (x : Books). x.journal) is.is);
    finds = tt;
  }

  pub set-answers : (f : ℕ) (o : Options) (option : OptionName) (value sv : ℕ) → Sound a → IsOptionSet a b f o
      → k.handles name ≡ Some f
      → due k (command.Set name option value) ≡ None → value_of option o ≡ value → sv ≡ length a.supers + 1
      → Answers s a b k (command.Set name option value) (reply.Set sv)
  set-answers f o option value sv sound is has none at number = record {
    fits = set-fits a b f o sound is s k name option value sv h.knows has none at number;
    still = all-kept s a b k (learns (met sv) (k.handles name) k)
        (record { own = keeps-set s.lane a b f o is; journal = ap (λ (x : Books). x.journal) is.is; snapshots = ap (λ (x : Books). x.snapshots) is.is; holds = ap (λ (x : Books). x.files.holds) is.is })
        (of_handle (λ z. SameOwn k (learns (met sv) z k)) (k.handles name) f has (record { handles = refl; holds = refl; accepted = refl; ended = refl; snapshots = λ n e. e }))
        (set-knows a b f o sound is k name option value sv after h.knows has number) h;
    asked = none-asked s a b k (command.Set name option value) (reply.Set sv) (ap (λ (x : Books). by_lane s.lane x.journal) is.is) refl;
    own = adds-none s.lane a b (ap (λ (x : Books). x.journal) is.is);
    finds = tt;
  }

-- ---- holds

module _ (s : Setting) (a b : Books) (k : Known) (h : KnowsAll s a k) (after : After a b) (before count : ℕ) (at : slice_get a.files.holds s.lane ≡ Some before)
    (is : b ≡ record a { files = record a.files { holds = slice_set a.files.holds s.lane count } }) where
  held : KnowsAll s b (record k { holds = count })
  held = record {
    knows = knows-counts b k k.touched k.accepted count (knows-later a b k after h.knows);
    own = own-hold s.lane a b k count h.own is;
    alone = λ one. alone-hold s.lane a b k count h.own (h.alone one) is;
  }

  pub hold-answers : count ≡ before + 1 → due k command.Hold ≡ None → Answers s a b k command.Hold (reply.Hold count)
  hold-answers more none = record {
    fits = hold-fits s a b k before count h.own at more none;
    still = held;
    asked = none-asked s a b k command.Hold (reply.Hold count) (ap (λ (x : Books). by_lane s.lane x.journal) is) refl;
    own = adds-none s.lane a b (ap (λ (x : Books). x.journal) is);
    finds = tt;
  }

  pub unhold-answers : count + 1 ≡ before → due k command.Unhold ≡ None
      → Answers s a b k command.Unhold (reply.Unhold count)
  unhold-answers less none = record {
    fits = unhold-fits s a b k before count h.own at less none;
    still = held;
    asked = none-asked s a b k command.Unhold (reply.Unhold count) (ap (λ (x : Books). by_lane s.lane x.journal) is) refl;
    own = adds-none s.lane a b (ap (λ (x : Books). x.journal) is);
    finds = tt;
  }

-- ---- lists of files: what the lane knows is the same

module _ (s : Setting) (a b : Books) (k : Known) (h : KnowsAll s a k) (after : After a b) (keeps : KeepsAll s.lane a b) (numbers : List ℕ) where
  pub live-answers : ReplyFits s b k command.Live (reply.Live numbers)
      → Answers s a b k command.Live (reply.Live numbers)
  live-answers fits = record {
    fits = fits;
    still = all-kept s a b k k keeps (same-known k) (knows-later a b k after h.knows) h;
    asked = none-asked s a b k command.Live (reply.Live numbers) keeps.own.writes refl;
    own = adds-none s.lane a b keeps.journal;
    finds = tt;
  }

  pub purge-answers : ReplyFits s b k command.Purge (reply.Purge numbers) → NoneGone a numbers
      → Answers s a b k command.Purge (reply.Purge numbers)
  purge-answers fits new = record {
    fits = fits;
    still = all-kept s a b k k keeps (same-known k) (knows-later a b k after h.knows) h;
    asked = none-asked s a b k command.Purge (reply.Purge numbers) keeps.own.writes refl;
    own = adds-none s.lane a b keeps.journal;
    finds = new;
  }

  pub scan-answers : ReplyFits s b k command.Scan (reply.Scan numbers) → NoneGone a numbers
      → Answers s a b k command.Scan (reply.Scan numbers)
  scan-answers fits new = record {
    fits = fits;
    still = all-kept s a b k k keeps (same-known k) (knows-later a b k after h.knows) h;
    asked = none-asked s a b k command.Scan (reply.Scan numbers) keeps.own.writes refl;
    own = adds-none s.lane a b keeps.journal;
    finds = new;
  }

-- ---- snapshots

pub snap-answers : (s : Setting) (a b : Books) (k : Known) (n at : ℕ) → KnowsAll s a k → After a b → IsSnapped a b
    → n ≡ length a.snapshots + 1 → at ≡ length a.journal → Answers s a b k command.Snap (reply.Snap n at)
snap-answers s a b k n at h after is number end = record {
  fits = snap-fits a b is s k n at h.knows h.own.writes number end;
  still = record {
    knows = snap-knows a b is k n at after h.knows number;
    own = own-kept s.lane a b k (record k { snapshots = with_at k.snapshots n true })
        (keeps-all s.lane a b (ap (λ (x : Books). x.families) is.is) (ap (λ (x : Books). x.files.holds) is.is) (ap (λ (x : Books). x.journal) is.is)) refl refl refl h.own;
    alone = λ one. alone-snap a b k n is number (h.alone one);
  };
  asked = none-asked s a b k command.Snap (reply.Snap n at) (ap (λ (x : Books). by_lane s.lane x.journal) is.is) refl;
  own = adds-none s.lane a b (ap (λ (x : Books). x.journal) is.is);
  finds = tt;
}

pub unsnap-answers : (s : Setting) (a b : Books) (k : Known) (n : ℕ) (x : Snapshot) → KnowsAll s a k → After a b
    → IsUnsnapped a b n x
    → Answers s a b k (command.Unsnap n) reply.Unsnap
unsnap-answers s a b k n x h after is = record {
  fits = unsnap-fits a b n x is s k h.knows h.alone;
  still = record {
    knows = unsnap-knows a b n x is k after h.knows;
    own = own-kept s.lane a b k (learn k (command.Unsnap n) reply.Unsnap)
        (keeps-all s.lane a b (ap (λ (z : Books). z.families) is.is) (ap (λ (z : Books). z.files.holds) is.is) (ap (λ (z : Books). z.journal) is.is)) refl refl refl h.own;
    alone = λ one. alone-unsnap a b k n x is (h.alone one);
  };
  asked = none-asked s a b k (command.Unsnap n) reply.Unsnap (ap (λ (z : Books). by_lane s.lane z.journal) is.is) refl;
  own = adds-none s.lane a b (ap (λ (z : Books). z.journal) is.is);
  finds = λ over. (
      let same : over.0 ≡ x = some (sym over.1 ∙ is.at) in
      let q : false ≡ true = sym over.2 ∙ (ap (λ (z : Snapshot). z.live) same ∙ is.live) in
      absurd (cc)
      );
}
