-- The rows of the tracks that were read so far.
use Rattle.std.proofs.Common.{◌≡◌, ℕ, ◌+◌, ◌*◌, List, [], ◌∷◌, ◌++◌, length, Option, refl, sym, ap, subst, ◌∙◌, arith}
use Rattle.std.specs.Io.KnownBytes.{Consumes, IsAtEnd}
use Rattle.ckd_types.specs.declared.geometry.Geometry.{Geometry}
use Rattle.track_image.specs.Image.{Image}
use Rattle.volume_file.specs.Answers.{IsProgress, Progress}
use Rattle.volume_file.specs.File.{IsPlaced, file_of, head_of, track_part}
use Rattle.volume_file.proofs.ReadSo.{ReadSo, ended, reads_on, so_far, starts_so, whole}
use Rattle.volume_texts.specs.declared.listing.Row.{Row}
use Rattle.volume_texts.specs.List.{row_of, rows_from}
use Rattle.volume_texts.proofs.Rows.{rows_push}
use Rattle.volume_tool.specs.List.{Lists}

pub record Listed (before now : Option (List ℕ)) (p : Progress) (rows : List Row) : Type 0 where
  pub images : List Image
  pub so : ReadSo before now p images
  pub each : rows ≡ rows_from 0 images

pub lists_none : (before now : Option (List ℕ)) (p : Progress) (rows : List Row) → Consumes before now (head_of p.geometry p.cylinders)
    → IsProgress p × (p.next ≡ 0) × (p.offset ≡ 12) → rows ≡ []
    → Listed before now p rows
lists_none before now p rows read start none = record { images = []; so = starts_so before now p [] read start refl; each = none }

pub lists_on : (before now later : Option (List ℕ)) (p q : Progress) (rows more : List Row) (row : Row) (i : Image)
    → Listed before now p rows
    → Consumes now later (track_part i) → IsPlaced p.geometry p.next i
    → q ≡ record p { next = p.next + 1; offset = p.offset + length (track_part i) }
    → row ≡ row_of p.next i → more ≡ rows ++ row ∷ []
    → Listed before later q more
lists_on before now later p q rows more row i l read place moved row_is pushed =
    let images = l.images ++ i ∷ [] in
    record {
      images = images;
      so = reads_on before now later p q l.images images i l.so read place moved refl;
      each =
          pushed
          ∙ ap (λ (x : Row). rows ++ x ∷ []) row_is
          ∙ ap (λ (x : List Row). x ++ row_of p.next i ∷ []) l.each
          ∙ sym (rows_push 0 p.next l.images i (omega (arith, l.so.next)));
    }

pub lists_all : (before now after : Option (List ℕ)) (p : Progress) (g : Geometry) (cylinders : ℕ) (rows : List Row)
    → Listed before now p rows → p.next ≡ p.cylinders * 15
    → g ≡ p.geometry → cylinders ≡ p.cylinders → Consumes now after [] → IsAtEnd after
    → Lists before after g cylinders rows
lists_all before now after p g cylinders rows l all g_is cylinders_is read end =
    let made : Lists before after p.geometry p.cylinders rows = record {
      images = l.images;
      file = record {
        whole = whole before now p l.images l.so all;
        read = ended before now after (file_of (so_far p l.images)) l.so.read read;
        end = end;
      };
      each = l.each;
    } in
    subst (λ (x : Geometry). Lists before after x cylinders rows) (sym g_is) (subst (λ (x : ℕ). Lists before after p.geometry x rows) (sym cylinders_is) made)
