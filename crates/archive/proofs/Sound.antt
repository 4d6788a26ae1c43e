-- Accepted archives are sound, and sound ones accepted.
-- Assumes nothing.
use mathlib.Core.Path.{◌≡◌, sym, ap, ◌∙◌}
use mathlib.Core.List.{List, ◌++◌, append_assoc, append-nil}
use Prim.Native.Nat.{ℕ, zero, suc, ◌≤◌}
use native.Mathlib.Omega.{arith}
use lib.ListN.{take, take-append-drop}
use lib.Seq.{take-add}
use Rattle.blocks.specs.Blocks.{row}
use Rattle.refusals.specs.Cases.{first_of}
use Rattle.refusals.proofs.Answers.{answer_none, answer_gives}
use Rattle.refusals.proofs.Cases.{first_pass}
use Rattle.header.specs.Fields.{layout_of, layout_under, tag_size, count_of, directory_end, directory_of, bodies_end, tag_of, tagged_of}
use Rattle.jobnumber.specs.Number.{order_of}
use Rattle.directory.specs.Entries.{entries, entry_at, start_of, size_of}
use Rattle.directory.specs.Check.{body_from}
use Rattle.directory.specs.Sound.{Sound}
use Rattle.directory.proofs.Cases.{directory_positive}
use Rattle.directory.proofs.Accepted.{sound_directories, sound_accepted}
use Rattle.bodies.specs.Bodies.{body_at}
use Rattle.admission.specs.Check.{check_cases, tag_bytes}
use Rattle.admission.proofs.Checking.{check_directory}
use Rattle.admission.proofs.Accepted.{accepted_header, accepted_directory, accepted_tag, accepted_entries, tag_passes}
use Rattle.archive.specs.Sound.{bodies, SoundArchives, AcceptedArchives}

module _ (file : List ℕ) (sound : Sound (directory_of file) (directory_end file) (bodies_end file)) where
  abbrev from : ℕ → ℕ
  from i = body_from (directory_of file) (directory_end file) i

  -- the header, the directory and the first n bodies are the front of the file, up to where body n has to start
  tiles : (n : ℕ) → n ≤ entries (directory_of file) → take (directory_end file) file ++ bodies file n ≡ take (from n) file
  unfolding row bodies body_at
  tiles zero l = append-nil (take (directory_end file) file) ∙ ap (λ (k : ℕ). take k file) (sym sound.first)
  tiles (suc n) l =
      let e : List ℕ = entry_at (directory_of file) n in
      sym (append_assoc (take (directory_end file) file) (bodies file n) (body_at file n))
      ∙ ap (λ (x : List ℕ). x ++ body_at file n) (tiles n (omega arith) ∙ ap (λ (k : ℕ). take k file) (sym (sound.placed n (omega arith))))
      ∙ sym (take-add (start_of e) (size_of e) file)
      ∙ ap (λ (k : ℕ). take k file) (sym (sound.next n))

-- the bytes under the tag, and then the tag, are the file
whole : (tag_key file : List ℕ) → tag_of file ≡ tag_bytes tag_key (tagged_of file)
    → tagged_of file ++ tag_bytes tag_key (tagged_of file) ≡ file
unfolding tag_of tagged_of
whole tag_key file e = ap (λ (l : List ℕ). take (bodies_end file) file ++ l) (sym e) ∙ take-append-drop (bodies_end file) file

pub sound_archives : SoundArchives
unfolding tagged_of
sound_archives key tag_key file n e =
    let p = answer_gives (first_of (check_cases key tag_key file)) (count_of file) n e in
    let header = accepted_header order_of key tag_key file p.0 in
    let count : entries (directory_of file) ≡ n = accepted_entries order_of key tag_key file p.0 ∙ p.1 in
    let directory = accepted_directory order_of key tag_key file p.0 in
    let sound = sound_directories (directory_of file) (directory_end file) (bodies_end file) directory in
    let size : tag_size (layout_of file) ≡ tag_size (layout_under tag_key) = ap tag_size header.laid in
    record {
      layout = header.laid;
      counted = count;
      sound = sound;
      tiled =
          tiles file sound n (omega arith)
          ∙ ap (λ (k : ℕ). take (body_from (directory_of file) (directory_end file) k) file) (sym count)
          ∙ ap (λ (k : ℕ). take k file) sound.ends;
      placed = omega (arith, header.room, size);
      tagged = whole tag_key file (accepted_tag order_of key tag_key file p.0);
    }

pub accepted_archives : AcceptedArchives
accepted_archives key tag_key file k t h sound tag =
    let directory = sound_accepted (directory_of file) (directory_end file) (bodies_end file) sound in
    answer_none _ _
    (check_directory order_of key tag_key file k t h
    ∙ first_pass _ _ (directory_positive order_of (directory_of file) (directory_end file) (bodies_end file)) directory
    ∙ tag_passes tag_key file tag)
