-- The text of a report.
use Rattle.std.specs.Prelude.{ℕ, Bool, if◌then◌else◌, List, [], ◌∷◌, ◌++◌, codes, flat_map}
use Rattle.sv_model.specs.declared.reports.Summary.{Summary}
use Rattle.sv_model.specs.declared.reports.FamilyLine.{FamilyLine}
use Rattle.sv_model.specs.declared.reports.Totals.{Totals}
use Rattle.sv_model.specs.declared.reports.End.{End}
use Rattle.sv_model.specs.declared.reports.End.TheVariants as ended
use Rattle.sv_script.specs.declared.replies.LaneReport.{LaneReport}
use Rattle.sv_script.specs.declared.replies.Tail.{Tail}
use Rattle.sv_script.specs.Texts.{numbered, listed, feed}
use Rattle.sv_script.specs.ReplyTexts.{reply_text}

-- what a lane counted
unfoldable pub tail_text : ℕ → Tail → List ℕ
tail_text lane tail =
    numbered (codes "lane ") lane
    ++ (numbered (codes " uses ") tail.uses
    ++ (numbered (codes " misses ") tail.misses ++ (numbered (codes " swept ") tail.swept ++ feed)))

-- A lane's section: a line with its number, a line for each reply, what it counted.
unfoldable pub lane_text : LaneReport → List ℕ
lane_text lane =
    numbered (codes "lane ") lane.lane
    ++ (feed ++ (flat_map (λ r. reply_text r.0 r.1) lane.replies ++ tail_text lane.lane lane.counts))

-- the numbers of the files, or `none`
unfoldable pub files_text : List ℕ → List ℕ
files_text [] = codes " none"
files_text (number ∷ numbers) = listed (number ∷ numbers)

-- whether it was dropped
abbrev pub standing_text : Bool → List ℕ
standing_text dropped = if dropped then codes " dropped" else codes " live"

-- the files of its last Version, of which a dropped family has none
abbrev pub last_files : FamilyLine → List ℕ
last_files family = if family.dropped then [] else family.files

-- which family it is, and whether it was dropped
unfoldable pub family_head : FamilyLine → List ℕ
family_head family =
    numbered (codes "family ") family.id ++ (codes " " ++ (family.name ++ standing_text family.dropped))

-- its writes and its files
unfoldable pub family_counts : FamilyLine → List ℕ
family_counts family =
    numbered (codes " writes ") family.writes ++ (codes " files" ++ (files_text (last_files family) ++ feed))

-- a family's line
unfoldable pub family_text : FamilyLine → List ℕ
family_text family = family_head family ++ family_counts family

-- how many objects, after a word that says what became of them
unfoldable pub totals_text : List ℕ → Totals → List ℕ
totals_text word totals =
    word
    ++ (numbered (codes " superversions ") totals.superversions
    ++ (numbered (codes " memtables ") totals.memtables ++ (numbered (codes " files ") totals.files ++ feed)))

-- the files of earlier runs
unfoldable pub strays_text : ℕ → ℕ → List ℕ
strays_text seen gone = numbered (codes "strays seen ") seen ++ (numbered (codes " gone ") gone ++ feed)

-- how close ended, and the numbers that it left
unfoldable pub end_text : End → List ℕ → List ℕ
end_text ended.Clean left = codes "end clean" ++ feed
end_text ended.DirFault left = codes "end left" ++ (listed left ++ feed)
end_text ended.OutOfMemory left = codes "end no memory left" ++ (listed left ++ feed)

-- what a report says of the run as a whole
unfoldable pub summary_text : Summary → List ℕ
summary_text summary =
    flat_map family_text summary.families
    ++ (totals_text (codes "made") summary.made
    ++ (totals_text (codes "gone") summary.gone
    ++ (strays_text summary.strays_seen summary.strays_gone ++ end_text summary.end summary.left)))

-- The report: each lane's section in order, then the run as a whole.
unfoldable pub report_text : List LaneReport → Summary → List ℕ
report_text lanes summary = flat_map lane_text lanes ++ summary_text summary
