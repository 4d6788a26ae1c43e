-- Adjoining ranges join, and a whole job is opened as in 01.
-- Assumes nothing.
use mathlib.Core.Path.{◌≡◌, refl, sym, ap, ap₂, ◌∙◌, subst}
use mathlib.Core.List.{List, ◌++◌}
use Prim.Native.Nat.{ℕ, ◌+◌, ◌≤◌}
use native.Mathlib.Omega.{arith}
use lib.ListN.{length, take, drop}
use lib.Seq.{take_all, take-add, drop-drop}
use Rattle.refusals.specs.Answers.{Answer, gives, answer}
use Rattle.refusals.proofs.Cases.{first_alike}
use Rattle.expansion.specs.KeySchedule.{schedule_of}
use Rattle.ctr.specs.Counter.{keystream}
use Rattle.ctr.proofs.Streams.{length_stream}
use Rattle.header.specs.Fields.{archive_number}
use Rattle.archive.specs.Find.{find_cases}
use Rattle.opening.specs.Open.{prefix_of, under_keystream, body_of, plain_of, job_size, range_of}
use Rattle.opening.specs.Open.{open_cases, Opens}
use Rattle.opened_jobs.specs.Ranges.{RangesJoin, WholeJobs}
use Rattle.opening.proofs.Opening.{range_whole, find_positive, opens_none}
use Rattle.opening.proofs.Opening.{opened_count, opened_found, opened_within, opened_front, opened_rest}

-- a range is its first m bytes and the n behind them
range_split : (first m n : ℕ) (bytes : List ℕ) → range_of first (m + n) bytes ≡ range_of first m bytes ++ range_of (first + m) n bytes
range_split first m n bytes =
    take-add m n (drop first bytes) ∙ ap (λ (l : List ℕ). take m (drop first bytes) ++ take n l) (drop-drop m first bytes)

pub ranges_join : RangesJoin
ranges_join key tag_key file number first m n before₁ before₂ before after₁ after₂ after i j a o₁ o₂ o room =
    let plain : List ℕ = plain_of (schedule_of key) file number in
    let ei : i ≡ m = opened_count key tag_key file number first m before₁ after₁ i o₁ in
    let ej : j ≡ n = opened_count key tag_key file number (first + m) n before₂ after₂ j o₂ in
    let both : i + j ≡ m + n = ap₂ (λ (u v : ℕ). u + v) ei ej in
    let found = opened_found key tag_key file number first m before₁ after₁ i o₁ in
    let within = opened_within key tag_key file number (first + m) n before₂ after₂ j o₂ in
    let answered : a ≡ gives (i + j) =
    o.answered ∙ opens_none key tag_key file number first (m + n) (length before) found (omega arith) room ∙ ap gives (sym both)
    in
    let joined : Opens key tag_key file number first (m + n) before (gives (i + j)) after =
    subst (λ (b : Answer). Opens key tag_key file number first (m + n) before b after) answered o
    in
    record {
      answered = answered;
      bytes =
          opened_front key tag_key file number first (m + n) before after (i + j) joined
          ∙ range_split first m n plain
          ∙ ap₂ (λ (u v : List ℕ). u ++ v)
          (sym (opened_front key tag_key file number first m before₁ after₁ i o₁))
          (sym (opened_front key tag_key file number (first + m) n before₂ after₂ j o₂));
      rest = opened_rest key tag_key file number first (m + n) before after (i + j) joined;
    }

pub whole_jobs : WholeJobs
unfolding open_cases under_keystream
whole_jobs key tag_key file number room =
    let size : ℕ = job_size file number in
    let f = find_positive key tag_key file number in
    record {
      answered =
          ap (λ (n : ℕ). answer n size)
          (first_alike (find_cases key tag_key file number) (find_cases key tag_key file number) _ _ f f refl (λ z. range_whole size room));
      bytes = λ s.
          let k : ℕ → ℕ = keystream s (prefix_of (archive_number file) number) in
          let all : length (plain_of s file number) ≤ size = omega (arith, length_stream k 0 (body_of file number)) in
          take_all size (plain_of s file number) all;
    }
