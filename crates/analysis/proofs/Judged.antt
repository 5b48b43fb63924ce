-- What the questions answered yes give a search, and the verdict by what was found.
use Rattle.std.specs.Prelude.{Result, Err, Ok}
use Rattle.std.proofs.Common.{◌≡◌, ℕ, ◌+◌, ◌*◌, ◌/◌, ◌%◌, ◌<◌, ◌≤◌, Bool, true, ◌&&◌, eqb, leb, List, length, take, drop, sym, refl, ap, ◌∙◌, subst, arith, leb-true}
use Rattle.program.specs.Asking.{ask, ask_plain, then_ask, Validity}
use Rattle.program.specs.File.{name_count, sizes}
use Rattle.program.specs.Graph as drawn
use Rattle.program.specs.Graph.{graph}
use Rattle.program.specs.Parts.Prepared.{Prepared, PreparedLinked}
use Rattle.program.specs.Questions.{validity}
use Rattle.program.specs.declared.Construction.{Construction}
use Rattle.program.specs.declared.Construction.TheVariants.{Nondeterministic}
use Rattle.program.specs.declared.Refusal.{Refusal}
use Rattle.program.proofs.Laws.{sizes_length, counts, ask_fit, prepared_still}
use Rattle.program.proofs.Never.{never}
use Rattle.program.proofs.Tests.{two}
use Rattle.analysis.specs.Parts.Judging.{names_in, marked}
use Rattle.analysis.specs.Records.{initial_width, record_width, record_at, record_count, whole_records, both_whole, wrong_byte}
use Rattle.analysis.specs.Parts.RecordParts.{readable}
use Rattle.analysis.specs.Soundness.{ThirdTermFor}
use Rattle.analysis.specs.Parts.Tabled.{TablePut, Ready}
use Rattle.analysis.specs.Verdict.{verdict_unless_refused, verdict_over, verdict, solution_validity, marking_by, marking, offending, verdict_numbers, verdict_row}
use Rattle.analysis.specs.declared.RecordList.{RecordList}
use Rattle.analysis.specs.declared.Unreadable.{Unreadable}
use Rattle.analysis.specs.declared.Unreadable.TheVariants.{Refused as Declined, Malformed as Misshapen}
use Rattle.analysis.specs.declared.Verdict.{Verdict}
use Rattle.analysis.specs.declared.Verdict.TheVariants.{InitialMissing, ResultMissing}
use Rattle.analysis.proofs.Tables.{code_long}
use Rattle.analysis.proofs.ThirdTerm.{third_term}

-- few records
pub few_records : (width : ℕ) (bytes : List ℕ) → whole_records width bytes ≡ true → record_count width bytes ≤ 4096
unfolding whole_records record_count
few_records width bytes p = leb-true _ 4096 (two (eqb (length bytes % width) 0) (leb (length bytes / width) 4096) p).1

-- question 16, as the code asks it of one list and of both, where so many names are those of sizes ns
module _ (ns : List ℕ) (names : ℕ) (p : names ≡ length ns) where
  pub list_asked : (solution : List ℕ) (b : Bool) → b ≡ whole_records (2 + names) solution → (v : Validity) → v ≡ ask b 16 0
      → ask_plain (whole_records (record_width ns) solution) 16 ≡ v
  unfolding record_width
  list_asked solution b e v q = sym (q ∙ ap (λ (x : Bool). ask x 16 0) e ∙ rw p)

  pub both_asked : (initial solution : List ℕ) (b : Bool) → b ≡ (whole_records names initial && whole_records (2 + names) solution) → (v : Validity) → v ≡ ask b 16 0
      → both_whole ns initial solution ≡ v
  unfolding both_whole initial_width record_width
  both_asked initial solution b e v q = sym (q ∙ ap (λ (x : Bool). ask x 16 0) e ∙ rw p)

-- what it gives where it is answered yes
pub list_whole : (width : ℕ) (solution : List ℕ) (b : Bool) → b ≡ whole_records width solution → (v : Validity) → v ≡ ask b 16 0 → v ≡ Ok tt → whole_records width solution ≡ true
list_whole width solution b e v q f = sym e ∙ ask_fit b 16 0 (sym q ∙ f)

pub both_whole_lem : (u v : ℕ) (initial solution : List ℕ) (b : Bool) → b ≡ (whole_records u initial && whole_records v solution) → (w : Validity) → w ≡ ask b 16 0 → w ≡ Ok tt
    → (whole_records u initial ≡ true) × (whole_records v solution ≡ true)
both_whole_lem u v initial solution b e w q f = two (whole_records u initial) (whole_records v solution) (sym e ∙ ask_fit b 16 0 (sym q ∙ f))

-- question 17 of a list, as the code asks it by the answer: what a wrong byte says of the answer, and what a yes says
pub record WrongIn (list : RecordList) (v : Validity) (u : Unreadable) : Type 0 where
  pub refusal : Refusal
  pub was : v ≡ Err refusal
  pub told : u ≡ Misshapen (wrong_byte list refusal)

pub wrong_in : (list : RecordList) (v : Validity) {w : Result (Unit {0}) Unreadable} {u : Unreadable} → w ≡ readable list v → w ≡ Err u → WrongIn list v u
unfolding readable
wrong_in list (Ok _) e f = never (cc)
wrong_in list (Err x) {u = u} e f = record { refusal = x; was = refl; told = let same : u ≡ Misshapen (wrong_byte list x) = cc in same }

pub none_wrong : (list : RecordList) (v : Validity) {w : Result (Unit {0}) Unreadable} → w ≡ readable list v → w ≡ Ok tt → v ≡ Ok tt
unfolding readable
none_wrong list (Ok _) e f = refl
none_wrong list (Err x) e f = never (cc)

-- so many names, of a well-formed program
pub some_names : (s : List ℕ) → validity s ≡ Ok tt → (names : ℕ) → names ≡ name_count s → (0 < names) × (names ≤ 32)
some_names s fit names p = let c = counts s fit in (omega (arith, c.some_name), omega (arith, c.names))

-- a well-formed program is prepared with its links, and still is with the set table; and so many names of a prepared one
pub still : {κ : Construction} {s : List ℕ} {r : Validity} {old code graph : List ℕ} → PreparedLinked κ s r old graph → r ≡ Ok tt → TablePut old code → Prepared (sizes s) (drawn.graph κ s) code graph
still p f t = prepared_still _ _ (code_long t.tabled) t.before (p.prepared.prepared f)

pub ready : {κ : Construction} {s : List ℕ} {r : Validity} {old code graph : List ℕ} → PreparedLinked κ s r old graph → r ≡ Ok tt → TablePut old code → Ready code graph
ready p f t = record { ns = _; g = _; prepared = still p f t; linked = p.linked f; tabled = t.tabled }

pub ready_names : {code graph : List ℕ} → Ready code graph → (0 < names_in code) × (names_in code ≤ 32)
ready_names r = let c = r.prepared.coded in (omega (arith, c.some, c.count), omega (arith, c.few, c.count))

-- the verdict of a program file: refused, or judged over its graph
pub verdict_refused : (κ : Construction) (s initial solution : List ℕ) (x : Refusal) → validity s ≡ Err x → verdict κ s initial solution ≡ Err (Declined x)
unfolding verdict verdict_unless_refused
verdict_refused κ s initial solution x p = rw p

pub verdict_judged : (κ : Construction) (s initial solution : List ℕ) → validity s ≡ Ok tt → verdict κ s initial solution ≡ verdict_over (sizes s) (graph κ s) initial solution
unfolding verdict verdict_unless_refused
verdict_judged κ s initial solution p = rw p

-- a verdict, with document 01's numbers and the third term
pub promised : (κ : Construction) (s initial solution : List ℕ) {r : Result Verdict Unreadable} → r ≡ verdict κ s initial solution
    → record {
      value : r ≡ verdict κ s initial solution;
      numbers : verdict_numbers r ≡ verdict_row κ s initial solution;
      third : ThirdTermFor κ s initial solution r;
    }
unfolding verdict_row
promised κ s initial solution k = record {
  value = k;
  numbers = ap verdict_numbers k;
  third = subst (ThirdTermFor κ s initial solution) (sym k) (third_term κ s initial solution);
}

-- the index mark of a list by itself: refused, or over the prepared program
pub marking_refused : (s solution : List ℕ) (x : Refusal) → validity s ≡ Err x → marking s solution ≡ Err (Declined x)
unfolding marking solution_validity marking_by then_ask
marking_refused s solution x p = rw p

pub marking_marked : (s solution : List ℕ) → validity s ≡ Ok tt → marking s solution ≡ marked (sizes s) (graph Nondeterministic s) solution
unfolding marking solution_validity marked then_ask
marking_marked s solution p = rw p

-- the offending record, as a part of the list that it lies in
pub initial_part_lem : (s initial solution : List ℕ) (names : ℕ) → names ≡ name_count s → (k : ℕ) (l : List ℕ) → l ≡ take names (drop (names * k) initial)
    → l ≡ offending (sizes s) initial solution (Ok (InitialMissing k))
unfolding offending record_at initial_width
initial_part_lem s initial solution names p k l e = rw (sizes_length s ∙ sym p) e

pub solution_part : (s initial solution : List ℕ) (names : ℕ) → names ≡ name_count s → (k edge : ℕ) (l : List ℕ) → l ≡ take (2 + names) (drop ((2 + names) * k) solution)
    → l ≡ offending (sizes s) initial solution (Ok (ResultMissing k edge))
unfolding offending record_at record_width
solution_part s initial solution names p k edge l e = rw (sizes_length s ∙ sym p) e
