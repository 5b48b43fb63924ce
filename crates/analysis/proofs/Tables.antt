-- The set table behind a program's code: how it is put there, and what is read out of it.
use Rattle.std.proofs.Common.{◌≡◌, ℕ, ◌<◌, List, [], ◌++◌, length, get_or, take, drop, ap, ◌∙◌, append-nil, arith, length-drop, length-take-le, take_all, get_or-take, drop_at, ext_get_or}
use Rattle.std.proofs.lemmas.List.{drop_all}
use borrow.Rule.Slice.PartMut.{put_mid}
use lib.ListN.{get_or-append}
use Rattle.program.specs.Parts.Prepared.{table_place, code_length}
use Rattle.signs.specs.Grid.{set_table, operate, operate_by}
use Rattle.signs.specs.declared.Operator.{Operator}
use Rattle.signs.proofs.Laws.{table_rule, table_long}
use Rattle.analysis.specs.Parts.Tabled.{Tabled, TablePut}

-- behind the code, an array's last part whose numbers are the table's
pub table_put : (old sets : List ℕ) → length old ≡ code_length → length sets ≡ 320 → ((i : ℕ) → i < 320 → get_or sets i 0 ≡ get_or set_table i 0)
    → TablePut old (put_mid table_place 320 old sets)
table_put old sets long sized same =
    record {
      tabled = record { behind = ap (drop table_place) front ∙ drop_at (take table_place old) set_table table_place short };
      before = λ i h. ap (λ (l : List ℕ). get_or l i 0) front ∙ get_or-append (take table_place old) set_table 0 i (omega (arith, short)) ∙ get_or-take table_place old i 0 h;
    }
  where
    short : length (take table_place old) ≡ table_place
    short = length-take-le table_place old (omega (arith, long))

    none : drop 320 (drop table_place old) ≡ []
    none = drop_all 320 (drop table_place old) (omega (arith, length-drop table_place old))

    all : sets ≡ set_table
    all = ext_get_or 0 sets set_table (omega (arith, table_long)) (λ i h. same i (omega arith))

    front : put_mid table_place 320 old sets ≡ take table_place old ++ set_table
    front = ap (λ (l : List ℕ). take table_place old ++ (sets ++ l)) none ∙ ap (λ (l : List ℕ). take table_place old ++ l) (append-nil sets ∙ all)

module _ {code : List ℕ} (t : Tabled code) where
  pub code_long : length code ≡ code_length
  code_long = omega (arith, length-drop table_place code, ap length t.behind, table_long)

  -- an operator by the part of the code from the table on
  pub table_read : (o : Operator) (a b : ℕ) → operate_by (take 320 (drop table_place code)) o a b ≡ operate o a b
  table_read o a b = ap (λ (l : List ℕ). operate_by l o a b) (take_all 320 (drop table_place code) (omega (arith, ap length t.behind, table_long)) ∙ t.behind) ∙ table_rule o a b
