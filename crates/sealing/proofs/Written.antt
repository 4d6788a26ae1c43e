-- What the code writes, piece by piece, and that the pieces are the archive of the sheet's jobs.
-- Assumes nothing.
use mathlib.Core.Path.{◌≡◌, refl, sym, ap, ap₂, ◌∙◌}
use mathlib.Core.List.{List, ◌++◌, append_assoc}
use Prim.Native.Nat.{ℕ, zero, suc, ◌+◌, ◌*◌, ◌<◌, ◌≤◌}
use native.Mathlib.Omega.{arith}
use lib.ListN.{length, take, drop, length-append}
use lib.Seq.{take_at, drop_at, drop-drop, length-take-le}
use Rattle.blocks.specs.Blocks.{row}
use Rattle.blocks.proofs.Rows.{row_same}
use Rattle.circuit.specs.declared.Schedule.{Schedule}
use Rattle.expansion.specs.KeySchedule.{schedule_of}
use Rattle.header.specs.Fields.{layout_under}
use Rattle.admission.specs.Check.{key_check, tag_bytes}
use Rattle.codec.specs.Jobs.{Job, entry_of, directory_from, bodies_in, job_in, start_at}
use Rattle.codec.specs.Archive.{whole_length, header_of, front_of, archive_of}
use Rattle.codec.proofs.JobLaws.{directory_row, bodies_row}
use Rattle.opening.specs.Open.{under_keystream}
use Rattle.opening.proofs.Xor.{opening_xors}
use Rattle.sheet.specs.Sheet.{key_size_on, archive_number_on, lines, job_number_on, size_on, sizes_on}
use Rattle.sheet.proofs.LineLaws.{job_length}
use Rattle.sealing.specs.Seal.{key_on, plain_on, jobs_on, seal_job, seal_jobs, sealed_file, length_on}
use Rattle.sealing.specs.Internal.{header_on, entry_on, directory_on, body_on, bodies_on, front_on}
use Rattle.sealing.proofs.Jobs.{sums, sealed_length, sealed_at, sealed_bodies, jobs_length, job_at_lem, plain_length, bodies_length}

-- ---- piece by piece

-- what was written so far, and the next piece behind it: the part of k bytes that begins there comes back as the piece
pub next_piece : (p ys before out : List ℕ) (at k : ℕ) → out ≡ p ++ drop (length p) before → at ≡ length p → k ≡ length ys
    → take at out ++ (ys ++ drop k (drop at out)) ≡ (p ++ ys) ++ drop (length (p ++ ys)) before
next_piece p ys before out at k e ea ek =
    let rest : List ℕ = drop (length p) before in
    let front : take at out ≡ p = ap (take at) e ∙ take_at p rest at (sym ea) in
    let back : drop k (drop at out) ≡ drop (length p + k) before =
    ap (drop k) (ap (drop at) e ∙ drop_at p rest at (sym ea)) ∙ drop-drop k (length p) before in
    let sum : length p + k ≡ length (p ++ ys) = omega (arith, length-append p ys) in
    ap₂ (λ (u v : List ℕ). u ++ (ys ++ v)) front back
    ∙ ap (λ (n : ℕ). p ++ (ys ++ drop n before)) sum
    ∙ sym (append_assoc p ys _)

-- ---- the entries

-- an entry has sixteen bytes, so that the row of them has as many a line
pub entry_sixteen : (sheet : List ℕ) (from i : ℕ) → i < lines sheet → length (entry_on sheet from i) ≡ 16
unfolding entry_of
entry_sixteen sheet from i l = simp (length-append, job_length sheet i l) refl

-- ---- the bodies, one after the other

module _ (s : Schedule) (sheet plain : List ℕ) (exact : sizes_on sheet (lines sheet) ≡ length plain) where
  abbrev sealed : ℕ → List ℕ
  sealed = body_on s sheet plain

  sealed_size : (i : ℕ) → i < lines sheet → length (sealed i) ≡ size_on sheet i
  sealed_size i l =
      (opening_xors s (archive_number_on sheet) (job_number_on sheet i) (plain_on sheet plain i)).size
      ∙ plain_length sheet plain exact i l

  pub bodies_size : (i : ℕ) → i ≤ lines sheet → length (row sealed i) ≡ sizes_on sheet i
  unfolding row sizes_on
  bodies_size zero l = refl
  bodies_size (suc i) l = omega (arith, length-append (row sealed i) (sealed i), bodies_size i (omega arith), sealed_size i l)

  -- a turn of the loop that seals them in place
  pub bodies_turn : (i at k : ℕ) (run ys : List ℕ) → i < lines sheet → at ≡ sizes_on sheet i → k ≡ size_on sheet i
      → run ≡ row sealed i ++ drop (sizes_on sheet i) plain
      → ys ≡ under_keystream s (archive_number_on sheet) (job_number_on sheet i) (take k (drop at run))
      → take at run ++ (ys ++ drop k (drop at run)) ≡ row sealed (suc i) ++ drop (sizes_on sheet (suc i)) plain
  unfolding row sizes_on
  bodies_turn i at k run ys l ea ek e ey =
      let done : List ℕ = row sealed i in
      let left : List ℕ = drop (sizes_on sheet i) plain in
      let seam : length done ≡ at = bodies_size i (omega arith) ∙ sym ea in
      let front : take at run ≡ done = ap (take at) e ∙ take_at done left at seam in
      let back : drop at run ≡ left = ap (drop at) e ∙ drop_at done left at seam in
      let under : List ℕ → List ℕ = under_keystream s (archive_number_on sheet) (job_number_on sheet i) in
      let here : ys ≡ sealed i = ey ∙ ap₂ (λ (n : ℕ) (x : List ℕ). under (take n x)) ek back in
      let rest : drop k (drop at run) ≡ drop (sizes_on sheet i + size_on sheet i) plain =
      ap₂ (λ (n : ℕ) (x : List ℕ). drop n x) ek back ∙ drop-drop (size_on sheet i) (sizes_on sheet i) plain in
      ap₂ (λ (u v : List ℕ). u ++ v) front (ap₂ (λ (u v : List ℕ). u ++ v) here rest)
      ∙ sym (append_assoc done (sealed i) (drop (sizes_on sheet i + size_on sheet i) plain))

-- ---- the pieces and the jobs

module _ (s : Schedule) (sheet plain : List ℕ) (exact : sizes_on sheet (lines sheet) ≡ length plain) where
  abbrev ks : List Job
  ks = seal_jobs s (archive_number_on sheet) (jobs_on sheet plain)

  pub sealed_count : length ks ≡ lines sheet
  sealed_count = sealed_length s (archive_number_on sheet) (jobs_on sheet plain) ∙ jobs_length sheet plain

  pub sealed_job : (i : ℕ) → i < lines sheet → job_in ks i ≡ record { number = job_number_on sheet i; body = body_on s sheet plain i }
  sealed_job i l =
      sealed_at s (archive_number_on sheet) (jobs_on sheet plain) i (omega (arith, jobs_length sheet plain))
      ∙ ap (seal_job s (archive_number_on sheet)) (job_at_lem sheet plain i l)

  pub sealed_body : (i : ℕ) → i < lines sheet → length (job_in ks i).body ≡ size_on sheet i
  sealed_body i l = ap (λ (j : Job). length j.body) (sealed_job i l) ∙ sealed_size s sheet plain exact i l

  pub sealed_start : (from i : ℕ) → i ≤ lines sheet → start_at from ks i ≡ from + sizes_on sheet i
  sealed_start from = sums sheet from ks sealed_count sealed_body

  pub directory_on_lem : (from : ℕ) → directory_on sheet from ≡ directory_from from ks
  unfolding directory_on
  directory_on_lem from =
      row_same (entry_on sheet from) (λ (i : ℕ). entry_of (job_in ks i).number (start_at from ks i) (length (job_in ks i).body))
      (lines sheet)
      (λ i l.
      ap₂ (λ (n : List ℕ) (m : ℕ). entry_of n m (size_on sheet i)) (ap (λ (j : Job). j.number) (sym (sealed_job i l)))
      (sym (sealed_start from i (omega arith)))
      ∙ ap (entry_of (job_in ks i).number (start_at from ks i)) (sym (sealed_body i l)))
      ∙ ap (row (λ (i : ℕ). entry_of (job_in ks i).number (start_at from ks i) (length (job_in ks i).body))) (sym sealed_count)
      ∙ sym (directory_row from ks)

  pub bodies_on_lem : bodies_on s sheet plain ≡ bodies_in ks
  unfolding bodies_on
  bodies_on_lem =
      row_same (body_on s sheet plain) (λ (i : ℕ). (job_in ks i).body) (lines sheet)
      (λ i l. ap (λ (j : Job). j.body) (sym (sealed_job i l)))
      ∙ ap (row (λ (i : ℕ). (job_in ks i).body)) (sym sealed_count)
      ∙ sym (bodies_row ks)

  pub length_on_lem : (layout : ℕ) → length_on layout sheet ≡ whole_length layout ks
  unfolding length_on whole_length
  length_on_lem layout =
      omega (
        arith,
        sealed_count,
        sealed_bodies s (archive_number_on sheet) (jobs_on sheet plain),
        bodies_length sheet plain exact,
        exact,
      )

-- ---- the archive

module _ (key_file tag_key sheet plain : List ℕ) (keyed : key_size_on sheet ≤ length key_file)
    (exact : sizes_on sheet (lines sheet) ≡ length plain) where
  abbrev key : List ℕ
  key = key_on key_file sheet

  abbrev js : List Job
  js = seal_jobs (schedule_of key) (archive_number_on sheet) (jobs_on sheet plain)

  pub key_length_lem : length key ≡ key_size_on sheet
  key_length_lem = length-take-le (key_size_on sheet) key_file keyed

  front_on_lem : front_on (layout_under tag_key) (schedule_of key) sheet plain ≡ front_of key tag_key (archive_number_on sheet) js
  unfolding front_on front_of
  front_on_lem =
      let n : lines sheet ≡ length js = sym (sealed_count (schedule_of key) sheet plain exact) in
      let head : header_on (layout_under tag_key) (schedule_of key) sheet
      ≡ header_of (layout_under tag_key) (length key) (length js) (archive_number_on sheet) (key_check (schedule_of key))
      (whole_length (layout_under tag_key) js) =
      ap₂
      (λ (k c : ℕ).
      header_of (layout_under tag_key) k c (archive_number_on sheet) (key_check (schedule_of key)) (length_on (layout_under tag_key) sheet))
      (sym key_length_lem) n
      ∙ ap (header_of (layout_under tag_key) (length key) (length js) (archive_number_on sheet) (key_check (schedule_of key)))
      (length_on_lem (schedule_of key) sheet plain exact (layout_under tag_key))
      in
      ap₂ (λ (h r : List ℕ). h ++ r) head
      (ap₂ (λ (d b : List ℕ). d ++ b)
      (directory_on_lem (schedule_of key) sheet plain exact (20 + 16 * lines sheet) ∙ ap (λ (c : ℕ). directory_from (20 + 16 * c) js) n)
      (bodies_on_lem (schedule_of key) sheet plain exact))

  pub file_on : front_on (layout_under tag_key) (schedule_of key) sheet plain
      ++ tag_bytes tag_key (front_on (layout_under tag_key) (schedule_of key) sheet plain) ≡ sealed_file key_file tag_key sheet plain
  unfolding sealed_file archive_of
  file_on = ap (λ (f : List ℕ). f ++ tag_bytes tag_key f) front_on_lem
