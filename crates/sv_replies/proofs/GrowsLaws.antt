-- How much each change of the books makes, and that it adds up.
use Rattle.std.proofs.Common.{◌≡◌, ◌<◌, ◌≤◌, ◌+◌, inl, inr, ⊎_elim, ℕ, zero, suc, false, List, [], ◌∷◌, ◌++◌, length, Option, Some, None, refl, sym, ◌∙◌, ap, subst, arith}
use Rattle.std.specs.Prelude.{slice_get}
use Rattle.std.proofs.lemmas.Bool.{cases_lt}
use Rattle.std.proofs.lemmas.List.{append-nil, length_push}
use Rattle.std.proofs.lemmas.Option.{slice_get_within}
use Rattle.sv_model.specs.declared.records.FileMeta.{FileMeta}
use Rattle.sv_model.specs.declared.records.Memtable.{Memtable}
use Rattle.sv_model.specs.declared.records.SuperVersion.{SuperVersion}
use Rattle.sv_model.specs.declared.records.Family.{Family}
use Rattle.sv_model.specs.declared.settings.Options.{Options}
use Rattle.sv_model.specs.declared.writes.Write.{Write}
use Rattle.sv_model.specs.After.{Continues}
use Rattle.sv_model.specs.Books.{Books, FileRegister}
use Rattle.sv_model.proofs.Entries.{get_push}
use Rattle.sv_model.proofs.Lists.{total-push}
use Rattle.sv_model.proofs.Registers.{length-change}
use Rattle.sv_laws.specs.Captures.{IsFileCaptured, IsGivenUp}
use Rattle.sv_laws.specs.Cleaning.{IsCleaned}
use Rattle.sv_laws.specs.NewCurrents.{IsCompacted, IsFamilyMade, IsFlushed, IsOptionSet, IsSwitched}
use Rattle.sv_laws.specs.Writes.{IsWritten}
use Rattle.sv_script.specs.Answered.{Answered}
use Rattle.sv_script.specs.declared.replies.Reply.{Reply}
use Rattle.sv_replies.specs.Makes.{Draws, Grows, Makes, MakesAll, draws_by, files_by, installs_by}

-- ---- none is drawn

pub draws-none : (a b : Books) → b.metas ≡ a.metas → b.files.next ≡ a.files.next → Draws a b 0
draws-none a b metas next = record {
  long = let e = ap (λ (l : List FileMeta). length l) metas in omega (arith, e);
  next = omega (arith, next);
  each = λ i m beyond at. absurd (let within = slice_get_within a.metas i m (ap (λ (l : List FileMeta). slice_get l i) (sym metas) ∙ at) in omega (arith, within, beyond));
}

-- the registers are as long as they were
pub grows-none : (a b : Books) → length b.supers ≡ length a.supers → length b.memtables ≡ length a.memtables → b.metas ≡ a.metas
    → b.files.next ≡ a.files.next → Grows a b 0 0
grows-none a b supers memtables metas next = record { made = omega (arith, supers, memtables); draws = draws-none a b metas next }

pub grows-same : (a : Books) → Grows a a 0 0
grows-same a = grows-none a a refl refl refl refl

-- only other parts of the books changed
pub grows-rest : (a b : Books) → b.supers ≡ a.supers → b.memtables ≡ a.memtables → b.metas ≡ a.metas → b.files.next ≡ a.files.next → Grows a b 0 0
grows-rest a b supers memtables metas next =
    grows-none a b (ap (λ (l : List SuperVersion). length l) supers) (ap (λ (l : List Memtable). length l) memtables) metas next

-- ---- one change

pub grows-written : (a b : Books) (f : ℕ) (w : Write) → IsWritten a b f w → Grows a b 0 0
grows-written a b f w h =
    grows-rest a b (ap (λ (z : Books). z.supers) h.is) (ap (λ (z : Books). z.memtables) h.is) (ap (λ (z : Books). z.metas) h.is) (ap (λ (z : Books). z.files.next) h.is)

pub grows-cleaned : (a b : Books) (s : ℕ) (x : SuperVersion) → IsCleaned a b s x → Grows a b 0 0
grows-cleaned a b s x h =
    grows-none a b (ap (λ (z : Books). length z.supers) h.is ∙ length-change a.supers s (record x { live = false })) h.memtables.long
    (ap (λ (z : Books). z.metas) h.is) (ap (λ (z : Books). z.files.next) h.is)

pub grows-given_up : (a b : Books) (f number : ℕ) → IsGivenUp a b f number → Grows a b 0 0
grows-given_up a b f number h =
    grows-rest a b (ap (λ (z : Books). z.supers) h.is) (ap (λ (z : Books). z.memtables) h.is) (ap (λ (z : Books). z.metas) h.is)
    (ap (λ (z : FileRegister). z.next) h.settled.rest)

-- a SuperVersion comes, and a memtable with it or none
both-more : (a b : Books) (s : SuperVersion) (m : Memtable) → b.supers ≡ a.supers ++ s ∷ [] → b.memtables ≡ a.memtables ++ m ∷ []
    → length b.supers + length a.memtables ≡ length a.supers + length b.memtables + 0
both-more a b s m supers memtables =
    let p = ap (λ (l : List SuperVersion). length l) supers ∙ length_push a.supers s in
    let q = ap (λ (l : List Memtable). length l) memtables ∙ length_push a.memtables m in
    omega (arith, p, q)

super-more : (a b : Books) (s : SuperVersion) → b.supers ≡ a.supers ++ s ∷ [] → b.memtables ≡ a.memtables
    → length b.supers + length a.memtables ≡ length a.supers + length b.memtables + 1
super-more a b s supers memtables =
    let p = ap (λ (l : List SuperVersion). length l) supers ∙ length_push a.supers s in
    let q = ap (λ (l : List Memtable). length l) memtables in
    omega (arith, p, q)

pub grows-switched : (a b : Books) (f : ℕ) → IsSwitched a b f → Grows a b 0 0
grows-switched a b f h = record {
  made = both-more a b _ _ (ap (λ (z : Books). z.supers) h.is) (ap (λ (z : Books). z.memtables) h.is);
  draws = draws-none a b (ap (λ (z : Books). z.metas) h.is) (ap (λ (z : Books). z.files.next) h.is);
}

pub grows-made : (a b : Books) (r : Family) → IsFamilyMade a b r → Grows a b 0 0
grows-made a b r h = record {
  made = both-more a b _ _ (ap (λ (z : Books). z.supers) h.is) (ap (λ (z : Books). z.memtables) h.is);
  draws = draws-none a b (ap (λ (z : Books). z.metas) h.is) (ap (λ (z : Books). z.files.next) h.is);
}

pub grows-set : (a b : Books) (f : ℕ) (o : Options) → IsOptionSet a b f o → Grows a b 1 0
grows-set a b f o h = record {
  made = super-more a b _ (ap (λ (z : Books). z.supers) h.is) (ap (λ (z : Books). z.memtables) h.is);
  draws = draws-none a b (ap (λ (z : Books). z.metas) h.is) (ap (λ (z : Books). z.files.next) h.is);
}

pub grows-flushed : (a b : Books) (f : ℕ) (file : FileMeta) → IsFlushed a b f file → Grows a b 1 0
grows-flushed a b f file h = record {
  made = super-more a b _ (ap (λ (z : Books). z.supers) h.is) (ap (λ (z : Books). z.memtables) h.is);
  draws = draws-none a b (ap (λ (z : Books). z.metas) h.is) (ap (λ (z : FileRegister). z.next) h.settled.rest);
}

pub grows-compacted : (a b : Books) (f : ℕ) (file : FileMeta) → IsCompacted a b f file → Grows a b 1 0
grows-compacted a b f file h = record {
  made = super-more a b _ (ap (λ (z : Books). z.supers) h.is) (ap (λ (z : Books). z.memtables) h.is);
  draws = draws-none a b (ap (λ (z : Books). z.metas) h.is) (ap (λ (z : FileRegister). z.next) h.settled.rest);
}

pub grows-captured : (a b : Books) (f : ℕ) (file : FileMeta) → IsFileCaptured a b f file → Grows a b 0 1
grows-captured a b f file h =
    let metas : b.metas ≡ a.metas ++ file ∷ [] = ap (λ (z : Books). z.metas) h.is in
    record {
      made =
          let p = ap (λ (z : Books). length z.supers) h.is in
          let q = ap (λ (z : Books). length z.memtables) h.is in
          omega (arith, p, q);
      draws = record {
        long = ap (λ (l : List FileMeta). length l) metas ∙ length_push a.metas file;
        next = ap (λ (z : Books). z.files.next) h.is;
        each = λ i m beyond at. ⊎_elim
            (λ old. absurd (let within = slice_get_within a.metas i m old in omega (arith, within, beyond)))
            (λ last.
            let n : m.number ≡ a.files.next = ap (λ (z : FileMeta). z.number) last ∙ h.number_is in
            let p = ap (λ (l : List FileMeta). length l) metas ∙ length_push a.metas file in
            let within = slice_get_within b.metas i m at in
            omega (arith, n, p, within, beyond))
            (get_push a.metas file i m (ap (λ (l : List FileMeta). slice_get l i) (sym metas) ∙ at));
      };
    }

-- ---- one after the other

get-front : (xs ys : List FileMeta) (n : ℕ) → n < length xs → slice_get (xs ++ ys) n ≡ slice_get xs n
get-front [] ys n lt = absurd (omega (arith, lt))
get-front (x ∷ xs) ys zero lt = refl
get-front (x ∷ xs) ys (suc n) lt = get-front xs ys n (omega (arith, lt))

pub draws-through : (a m b : Books) (n p : ℕ) → Continues m.metas b.metas → Draws a m n → Draws m b p → Draws a b (n + p)
draws-through a m b n p more one two = record {
  long = let x = one.long in let y = two.long in omega (arith, x, y);
  next = let x = one.next in let y = two.next in omega (arith, x, y);
  each = λ i x beyond at. elim (cases_lt i (length m.metas)) [
    | inl lt ↦ one.each i x beyond (sym (get-front m.metas more.0 i lt) ∙ (ap (λ (l : List FileMeta). slice_get l i) (sym more.1) ∙ at))
    | inr ge ↦ (
        let y = two.each i x (omega (arith, ge)) at in
        let u = one.long in
        let v = one.next in
        omega (arith, y, u, v)
        )
  ];
}

pub grows-through : (a m b : Books) (i j n p : ℕ) → Continues m.metas b.metas → Grows a m i n → Grows m b j p → Grows a b (i + j) (n + p)
grows-through a m b i j n p more one two = record {
  made = let x = one.made in let y = two.made in omega (arith, x, y);
  draws = draws-through a m b n p more one.draws two.draws;
}

-- ---- reply by reply

pub makes-none : (a : Books) → MakesAll a a []
makes-none a = record { count = 0; grows = grows-same a; least = omega arith; most = omega arith }

pub makes-push : (a m b : Books) (all : List Answered) (x : Answered) → Continues m.metas b.metas → MakesAll a m all → Makes m b x.reply (draws_by x.command x.reply)
    → MakesAll a b (all ++ x ∷ [])
makes-push a m b all x more one two =
    let p = total-push (λ (z : Answered). installs_by z.reply) all x in
    let q = total-push (λ (z : Answered). files_by z.reply) all x in
    let r = total-push (λ (z : Answered). draws_by z.command z.reply) all x in
    record {
      count = one.count + two.count;
      grows = subst (λ n. Grows a b n (one.count + two.count)) (sym p) (grows-through a m b _ _ one.count two.count more one.grows two.grows);
      least = let u = one.least in let v = two.least in omega (arith, q, u, v);
      most = let u = one.most in let v = two.most_is in omega (arith, r, u, v);
    }

-- ---- where the second change makes nothing

pub goes-same : (a b : List FileMeta) → b ≡ a → Continues a b
goes-same a b same = ([], same ∙ sym (append-nil a))

pub grows-then : (a m b : Books) (i n : ℕ) → b.metas ≡ m.metas → Grows a m i n → Grows m b 0 0 → Grows a b i n
grows-then a m b i n same one two =
    let both = grows-through a m b i 0 n 0 (goes-same m.metas b.metas same) one two in
    record {
      made = let x = both.made in omega (arith, x);
      draws = subst (λ z. Draws a b z) (let q : n + 0 ≡ n = omega arith in q) both.draws;
    }

-- or the first
pub grows-after : (a m b : Books) (i n : ℕ) → Continues m.metas b.metas → Grows a m 0 0 → Grows m b i n → Grows a b i n
grows-after a m b i n more one two =
    let both = grows-through a m b 0 i 0 n more one two in
    record {
      made = let x = both.made in omega (arith, x);
      draws = subst (λ z. Draws a b z) (let q : 0 + n ≡ n = omega arith in q) both.draws;
    }

-- ---- a reply that shows nothing made

pub makes-zero : (a b : Books) (r : Reply) (most : ℕ) → installs_by r ≡ 0 → files_by r ≡ 0 → Grows a b 0 0 → Makes a b r most
makes-zero a b r most installs files grows = record {
  count = 0;
  grows = subst (λ n. Grows a b n 0) (sym installs) grows;
  least = omega (arith, files);
  most_is = omega arith;
}
