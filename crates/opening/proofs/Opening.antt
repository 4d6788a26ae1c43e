-- Laws of opening: what each way out of the code has to show, stage by stage, and what an opening that gave bytes tells.
-- Assumes nothing.
use mathlib.Core.Path.{◌≡◌, refl, sym, ap, ap₂, ◌∙◌, subst}
use mathlib.Core.Bool.{true, false}
use mathlib.Core.List.{List, ◌++◌, append_assoc}
use Prim.Native.Nat.{ℕ, ◌+◌, ◌<◌, ◌≤◌}
use native.Mathlib.Nat.{le_of_eq, zero-add}
use native.Mathlib.Omega.{arith}
use borrow.Author.Tests.{lt-ltb, le-ltb, ltb-false}
use lib.Dec.{ltb}
use lib.ListN.{length, take, drop, length-append, length-take, length-drop}
use lib.Seq.{take_at, drop_at}
use Rattle.std.specs.Prelude.{Result, Err}
use Rattle.refusals.specs.Cases.{first_of, positive}
use Rattle.refusals.specs.Answers.{Answer, refused, gives, answer, written_for}
use Rattle.refusals.specs.Numbers.{answer_of}
use Rattle.refusals.specs.declared.Refusal.{Refusal}
use Rattle.refusals.proofs.Cases.{skip, stop, clear, first_pass, first_none, positive_append}
use Rattle.refusals.proofs.Answers.{answer_gives, answer_number, answer_none, answer_first, refusal_is}
use Rattle.circuit.specs.declared.Schedule.{Schedule}
use Rattle.expansion.specs.KeySchedule.{schedule_of}
use Rattle.ctr.specs.Counter.{keystream, add_stream}
use Rattle.ctr.proofs.Streams.{length_stream, stream_part}
use Rattle.header.specs.Fields.{archive_number, directory_of}
use Rattle.jobnumber.specs.Number.{order_of}
use Rattle.directory.specs.Entries.{entries}
use Rattle.directory.specs.Search.{index_of, search_cases, search_of}
use Rattle.directory.proofs.Entries.{entry_none}
use Rattle.directory.proofs.Searching.{missing_is}
use Rattle.bodies.specs.Bodies.{number_cases, body_at}
use Rattle.bodies.proofs.Numbers.{number_positive}
use Rattle.admission.specs.Check.{check_cases}
use Rattle.admission.proofs.Checking.{check_positive}
use Rattle.archive.specs.Find.{find_cases}
use Rattle.opening.specs.Open.{prefix_of, under_keystream, body_of, plain_of, job_size, range_of, plain_range, room_cases, range_cases}
use Rattle.opening.specs.Open.{open_cases, open_of, Opens}
use Rattle.opening.specs.Internal.{OpensBody}

-- ---- how many bytes a job has, in any file

module _ (file number : List ℕ) where
  -- the search comes to no entry
  pub size_none : (n : ℕ) → refused n ≡ search_of (directory_of file) number → 0 ≡ job_size file number
  unfolding body_at
  size_none n e =
      let d : List ℕ = directory_of file in
      let p = answer_number (first_of (search_cases d number)) (index_of d number) n (sym e) in
      let past : entries d ≤ index_of d number = le_of_eq (sym (missing_is d number _ refl p.1).0) in
      rw (entry_none d (index_of d number) past)

  -- it comes to entry i, whose body is b
  pub size_found : (i : ℕ) (b : List ℕ) → gives i ≡ search_of (directory_of file) number → b ≡ body_at file i
      → length b ≡ job_size file number
  size_found i b e eb =
      let p = answer_gives (first_of (search_cases (directory_of file) number)) (index_of (directory_of file) number) i (sym e) in
      ap length (eb ∙ ap (body_at file) (sym p.1))

-- ---- the range and the buffer

range_positive : (size first count room : ℕ) → positive (range_cases size first count room) ≡ true
unfolding range_cases room_cases positive
range_positive size first count room = refl

range_past : (size first count room : ℕ) → ltb size (first + count) ≡ true → first_of (range_cases size first count room) ≡ 26
unfolding range_cases room_cases
range_past size first count room e = stop (range_cases size first count room) 0 e

range_short : (size first count room : ℕ) → ltb size (first + count) ≡ false → room < count
    → first_of (range_cases size first count room) ≡ 20
unfolding range_cases room_cases
range_short size first count room e l =
    skip (range_cases size first count room) 0 e ∙ stop (range_cases size first count room) 1 (lt-ltb room count l)

range_good : (size first count room : ℕ) → first + count ≤ size → count ≤ room → first_of (range_cases size first count room) ≡ 0
unfolding range_cases room_cases first_of
range_good size first count room l m =
    skip (range_cases size first count room) 0 (le-ltb size (first + count) l)
    ∙ skip (range_cases size first count room) 1 (le-ltb room count m)

range_clear : (size first count room : ℕ) → first_of (range_cases size first count room) ≡ 0 → (first + count ≤ size) × (count ≤ room)
unfolding range_cases room_cases
range_clear size first count room e =
    let none = clear (range_cases size first count room) (range_positive size first count room) e in
    (ltb-false _ _ (none 0), ltb-false _ _ (none 1))

-- all of the job's bytes: 20 is left
pub range_whole : (size room : ℕ) → first_of (range_cases size 0 size room) ≡ first_of (room_cases size room)
unfolding range_cases room_cases
range_whole size room = skip (range_cases size 0 size room) 0 (le-ltb size (0 + size) (omega arith))

-- a range within so many bytes has as many as it says
length_range : (first count : ℕ) (bytes : List ℕ) → first + count ≤ length bytes → length (range_of first count bytes) ≡ count
length_range first count bytes l = simp (length-take, length-drop) (omega arith)

-- ---- opening a range of a body

module _ (s : Schedule) (prefix body : List ℕ) (first count : ℕ) (before : List ℕ) where
  pub body_past : ltb (length body) (first + count) ≡ true → OpensBody s prefix body first count before (refused 26) before
  unfolding written_for
  body_past e =
      let past = range_past (length body) first count (length before) e in
      record { answered = refusal_is 26 _ _ (sym past) (λ q. omega arith); bytes = refl }

  module _ (e : ltb (length body) (first + count) ≡ false) where
    pub body_short : length before < count → OpensBody s prefix body first count before (refused 20) before
    unfolding written_for
    body_short l =
        let short = range_short (length body) first count (length before) e l in
        record { answered = refusal_is 20 _ _ (sym short) (λ q. omega arith); bytes = refl }

    -- the code says the range's length as m and n
    pub body_open : (run : List ℕ) (m n : ℕ) → count ≤ length before → m ≡ count → n ≡ count
        → run ≡ add_stream (keystream s prefix) first (take m (drop first body))
        → OpensBody s prefix body first count before (gives count) (run ++ drop n before)
    unfolding written_for
    body_open run m n l em en er =
        let within : first + count ≤ length body = ltb-false _ _ e in
        record {
          answered = sym (answer_none _ _ (range_good (length body) first count (length before) within l));
          bytes =
              ap₂ (λ (x : List ℕ) (k : ℕ). x ++ drop k before) (er
              ∙ ap (λ (k : ℕ). add_stream (keystream s prefix) first (take k (drop first body))) em) en;
        }

-- ---- after the check

-- a range of a job's plain bytes is that range of its body under the keystream
pub range_plain : (s : Schedule) (archive number bytes : List ℕ) (first count : ℕ)
    → range_of first count (under_keystream s archive number bytes)
    ≡ add_stream (keystream s (prefix_of archive number)) first (range_of first count bytes)
unfolding under_keystream
range_plain s archive number bytes first count =
    let k : ℕ → ℕ = keystream s (prefix_of archive number) in
    stream_part k 0 first count bytes ∙ ap (λ (i : ℕ). add_stream k i (range_of first count bytes)) (zero-add first)

module _ (key tag_key file number : List ℕ) (first count : ℕ) (before : List ℕ) where
  -- the archive is refused
  pub opens_refused : (n : ℕ) → n ≡ first_of (check_cases key tag_key file) → (n ≡ 0 → ⊥)
      → Opens key tag_key file number first count before (refused n) before
  unfolding written_for open_cases find_cases
  opens_refused n e h =
      let rest = range_cases (job_size file number) first count (length before) in
      let all = ap first_of (append_assoc (check_cases key tag_key file) (number_cases file number) rest) in
      let stopped = answer_first (check_cases key tag_key file) (number_cases file number ++ rest) count (λ q. h (e ∙ q)) in
      record { answered = ap refused e ∙ sym (ap (λ (m : ℕ). answer m count) all ∙ stopped); bytes = refl }

  -- the archive is accepted: the cases of the number, of the range and of the buffer are left
  module _ (z : 0 ≡ first_of (check_cases key tag_key file)) where
    asked : first_of (open_cases key tag_key file number first count (length before))
        ≡ first_of (number_cases file number ++ range_cases (job_size file number) first count (length before))
    unfolding open_cases find_cases
    asked =
        let rest = range_cases (job_size file number) first count (length before) in
        ap first_of (append_assoc (check_cases key tag_key file) (number_cases file number) rest)
        ∙ first_pass (check_cases key tag_key file) _ (check_positive order_of key tag_key file) (sym z)

    -- the job is not found
    pub opens_unknown : (n : ℕ) → n ≡ first_of (number_cases file number) → (n ≡ 0 → ⊥)
        → Opens key tag_key file number first count before (refused n) before
    unfolding written_for
    opens_unknown n e h =
        record {
          answered =
              ap refused e
              ∙ sym (ap (λ (m : ℕ). answer m count) asked ∙ answer_first (number_cases file number) _ count (λ y. h (e ∙ y)));
          bytes = refl;
        }

    -- the job is found, and a range of its body is opened
    pub opens_found : (s : Schedule) (prefix body : List ℕ) (a : Answer) (after : List ℕ) → 0 ≡ first_of (number_cases file number)
        → s ≡ schedule_of key → prefix ≡ prefix_of (archive_number file) number → body ≡ body_of file number
        → OpensBody s prefix body first count before a after → Opens key tag_key file number first count before a after
    opens_found s prefix body a after y es ep eb o =
        let rest = range_cases (job_size file number) first count (length before) in
        let pass = first_pass (number_cases file number) rest (number_positive file number) (sym y) in
        record {
          answered =
              o.answered
              ∙ ap (λ (l : List ℕ). answer (first_of (range_cases (length l) first count (length before))) count) eb
              ∙ ap (λ (n : ℕ). answer n count) (sym (asked ∙ pass));
          bytes =
              o.bytes
              ∙ ap (λ (t : Schedule). written_for a (add_stream (keystream t prefix) first (range_of first count body)) before) es
              ∙ ap₂ (λ (q l : List ℕ). written_for a (add_stream (keystream (schedule_of key) q) first (range_of first count l)) before) ep
              eb
              ∙ ap (λ (l : List ℕ). written_for a l before)
              (sym (range_plain (schedule_of key) (archive_number file) number (body_of file number) first count));
        }

-- all of the body's bytes are all of the job's
pub opens_whole : (key tag_key file number before : List ℕ) → 0 ≡ first_of (check_cases key tag_key file) → (s : Schedule)
    (prefix body : List ℕ) (a : Answer) (after : List ℕ) → 0 ≡ first_of (number_cases file number) → s ≡ schedule_of key
    → prefix ≡ prefix_of (archive_number file) number → body ≡ body_of file number → OpensBody s prefix body 0 (length body) before a after
    → Opens key tag_key file number 0 (job_size file number) before a after
opens_whole key tag_key file number before z s prefix body a after y es ep eb o =
    opens_found key tag_key file number 0 (job_size file number) before z s prefix body a after y es ep eb
    (subst (λ (n : ℕ). OpensBody s prefix body 0 n before a after) (ap length eb) o)

-- a refusal that is passed on
pub as_told : (key tag_key file number : List ℕ) (first count : ℕ) (before after : List ℕ) (r : Result ℕ Refusal) (e : Refusal)
    → r ≡ Err e → Opens key tag_key file number first count before (answer_of (Err e)) after
    → Opens key tag_key file number first count before (answer_of r) after
as_told key tag_key file number first count before after r e told o =
    subst (λ (x : Result ℕ Refusal). Opens key tag_key file number first count before (answer_of x) after) (sym told) o

-- ---- what an opening that gave bytes tells

pub find_positive : (key tag_key file number : List ℕ) → positive (find_cases key tag_key file number) ≡ true
unfolding find_cases
find_positive key tag_key file number =
    positive_append (check_cases key tag_key file) (number_cases file number) (check_positive order_of key tag_key file)
    (number_positive file number)

-- the job is found, the range lies within it, and the buffer has room
pub opens_none : (key tag_key file number : List ℕ) (first count room : ℕ) → first_of (find_cases key tag_key file number) ≡ 0
    → first + count ≤ job_size file number → count ≤ room → open_of key tag_key file number first count room ≡ gives count
unfolding open_cases
opens_none key tag_key file number first count room f l m =
    answer_none _ count (first_pass (find_cases key tag_key file number) _ (find_positive key tag_key file number) f
    ∙ range_good (job_size file number) first count room l m)

module _ (key tag_key file number : List ℕ) (first count : ℕ) (before after : List ℕ) (n : ℕ)
    (o : Opens key tag_key file number first count before (gives n) after) where
  given : (first_of (open_cases key tag_key file number first count (length before)) ≡ 0) × (count ≡ n)
  given = answer_gives _ _ n (sym o.answered)

  stages : (first_of (find_cases key tag_key file number) ≡ 0)
      × (first_of (range_cases (job_size file number) first count (length before)) ≡ 0)
  unfolding open_cases
  stages = first_none (find_cases key tag_key file number) _ (find_positive key tag_key file number) given.0

  pub opened_count : n ≡ count
  opened_count = sym given.1

  pub opened_found : first_of (find_cases key tag_key file number) ≡ 0
  opened_found = stages.0

  pub opened_within : first + count ≤ job_size file number
  opened_within = (range_clear _ first count _ stages.1).0

  -- as many bytes as were asked for
  size : length (plain_range (schedule_of key) file number first count) ≡ n
  unfolding under_keystream
  size =
      let k : ℕ → ℕ = keystream (schedule_of key) (prefix_of (archive_number file) number) in
      length_range first count (plain_of (schedule_of key) file number)
      (omega (arith, length_stream k 0 (body_of file number), opened_within))
      ∙ sym opened_count

  shape : after ≡ plain_range (schedule_of key) file number first count ++ drop n before
  unfolding written_for
  shape = o.bytes

  -- they stand at the buffer's front
  pub opened_front : take n after ≡ plain_range (schedule_of key) file number first count
  opened_front = ap (take n) shape ∙ take_at _ (drop n before) n size

  pub opened_rest : drop n after ≡ drop n before
  opened_rest = ap (drop n) shape ∙ drop_at (plain_range (schedule_of key) file number first count) (drop n before) n size

  fits : n ≤ length after
  fits =
      let all = ap length shape ∙ length-append (plain_range (schedule_of key) file number first count) (drop n before) in
      omega (arith, size)

-- whatever was answered: bytes that are given lie within the buffer
pub opens_fits : (key tag_key file number : List ℕ) (first count : ℕ) (before after : List ℕ) (a : Answer)
    → Opens key tag_key file number first count before a after → (n : ℕ) → a ≡ gives n → n ≤ length after
opens_fits key tag_key file number first count before after a o n e =
    fits key tag_key file number first count before after n
    (subst (λ (b : Answer). Opens key tag_key file number first count before b after) e o)
