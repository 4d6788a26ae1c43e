-- Without a tag key every call answers as before: each goes on with cases of its own after the check.
-- Assumes nothing.
use mathlib.Core.Path.{sym, ap, ◌∙◌}
use mathlib.Core.List.{List, [], ◌++◌, append_assoc, append-nil}
use Prim.Native.Nat.{ℕ}
use Rattle.refusals.specs.Cases.{Case, first_of}
use Rattle.refusals.specs.Answers.{answer}
use Rattle.header.specs.Fields.{count_of, directory_of}
use Rattle.directory.specs.Search.{index_of}
use Rattle.bodies.specs.Bodies.{number_cases}
use Rattle.admission.specs.Check.{check_cases}
use Rattle.admission.specs.Layout1.{layout1_cases, renumbered}
use Rattle.admission.proofs.Layout1.{layout_1_unchanged}
use Rattle.archive.specs.Find.{find_cases}
use Rattle.opening.specs.Open.{job_size, range_cases, open_cases}
use Rattle.opened_jobs.specs.Layout1.{WithoutTagKey}

pub without_tag_key : WithoutTagKey
unfolding find_cases open_cases
without_tag_key key file number =
    let check : List Case = check_cases key [] file in
    let find : List Case = number_cases file number in
    record {
      checking =
          ap (λ (l : List Case). answer (first_of l) (count_of file)) (sym (append-nil check))
          ∙ ap (λ (n : ℕ). answer n (count_of file)) (layout_1_unchanged key file [])
          ∙ ap (λ (l : List Case). answer (renumbered file (first_of l)) (count_of file)) (append-nil (layout1_cases key file));
      finding = ap (λ (n : ℕ). answer n (index_of (directory_of file) number)) (layout_1_unchanged key file find);
      opening = λ first count room.
          let range : List Case = range_cases (job_size file number) first count room in
          ap (λ (l : List Case). answer (first_of l) count) (append_assoc check find range)
          ∙ ap (λ (n : ℕ). answer n count) (layout_1_unchanged key file (find ++ range));
    }
