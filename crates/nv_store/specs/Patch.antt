-- A patch: which records of a track stay, other keys and data of some of those, and the records behind them.
use Rattle.std.specs.Prelude.{
  ◌≡◌,
  ℕ,
  ◌+◌,
  ◌-◌,
  ◌==◌,
  ◌&&◌,
  nat_le,
  nat_lt,
  not,
  Bool,
  true,
  false,
  List,
  [],
  ◌∷◌,
  ◌++◌,
  length,
  take,
  filter,
  Option,
  Some,
  None,
  if◌then◌else◌,
}
use Rattle.std.specs.List.{list_all}
use Rattle.ckd_types.specs.declared.record.Record.{Record}
use Rattle.ckd_types.specs.declared.record.Edit.{Edit}
use Rattle.ckd_types.specs.declared.record.Edit.TheVariants.{Update, Format, Zero}
use Rattle.ckd_types.specs.Edit.{edited}
use Rattle.ckd_rules.specs.Reads.{record_at}
use Rattle.track_image.specs.Image.{Image}
use Rattle.nv_store.specs.Fit.{is_fit}
use Rattle.nv_store.specs.declared.patch.Replacement.{Replacement}
use Rattle.nv_store.specs.declared.patch.Kept.{Kept}
use Rattle.nv_store.specs.declared.patch.Kept.TheVariants.{Whole, UpTo, Nothing}

pub record PatchView : Type 0 where
  pub replaced : List Replacement
  pub kept : Kept
  pub behind : List Record

-- a patch that changes nothing
abbrev pub no_edits : PatchView
no_edits = record { replaced = []; kept = Whole; behind = [] }

abbrev pub is_whole : Kept → Bool
is_whole Whole = true
is_whole (UpTo last) = false
is_whole Nothing = false

-- records stand behind those that stay exactly where not all of them stay
pub record IsPatch (p : PatchView) : Type 0 where
  pub behind : is_whole p.kept ≡ (length p.behind == 0)

abbrev pub is_kept : Kept → ℕ → Bool
is_kept Whole index = true
is_kept (UpTo last) index = nat_le index last
is_kept Nothing index = false

-- no two replacements are of one record
abbrev pub is_once : List Replacement → Bool
is_once [] = true
is_once (r ∷ replaced) = list_all (λ s. not (s.index == r.index)) replaced && is_once replaced

-- each record that stays has one replacement at most, and no other record has one
pub record IsReduced (p : PatchView) : Type 0 where
  pub once : is_once p.replaced ≡ true
  pub stays : list_all (λ r. is_kept p.kept r.index) p.replaced ≡ true

-- where a record that doesn't stay is among those behind
abbrev pub place_behind : Kept → ℕ → ℕ
place_behind Whole index = index
place_behind (UpTo last) index = index - (last + 1)
place_behind Nothing index = index

-- a record has one replacement at most: its last, where the first stood
abbrev pub with_replacement : Replacement → List Replacement → List Replacement
with_replacement new [] = new ∷ []
with_replacement new (r ∷ replaced) =
    if r.index == new.index then new ∷ filter (λ s. not (s.index == new.index)) replaced else r ∷ with_replacement new replaced

-- the patch with one more edit, which changes a record that stays or one behind those, or cuts the track
abbrev pub added : PatchView → Edit → PatchView
added p (Update index key body) =
    if is_kept p.kept index then record p {
      replaced =
          with_replacement (record { index = index; key = key; body = body }) p.replaced;
    }
    else record p { behind = edited (Update (place_behind p.kept index) key body) p.behind }
added p (Format after new) =
    if is_kept p.kept after then record {
      replaced = filter (λ r. nat_le r.index after) p.replaced;
      kept =
          UpTo after;
      behind = new ∷ [];
    }
    else record p { behind = edited (Format (place_behind p.kept after) new) p.behind }
added p (Zero new) = record { replaced = []; kept = Nothing; behind = new ∷ [] }

abbrev pub stay : Kept → List Record → List Record
stay Whole records = records
stay (UpTo last) records = take (last + 1) records
stay Nothing records = []

-- the records with their replacements
abbrev pub revised : List Replacement → List Record → List Record
revised [] records = records
revised (r ∷ replaced) records = revised replaced (edited (Update r.index r.key r.body) records)

-- the records of a track with the patch
abbrev pub patched : PatchView → List Record → List Record
patched p records = revised p.replaced (stay p.kept records) ++ p.behind

-- the record that a cut follows is there
abbrev pub reaches : Kept → List Record → Bool
reaches Whole records = true
reaches (UpTo last) records = nat_lt last (length records)
reaches Nothing records = true

-- a record is there, and its key and its data have these lengths
abbrev pub has_lengths : List Record → ℕ → ℕ → ℕ → Bool
has_lengths records index key body =
    nat_lt index (length records)
    && ((length (record_at records index).key == key) && (length (record_at records index).body == body))

abbrev pub is_replaceable : Kept → List Record → Replacement → Bool
is_replaceable kept records r = is_kept kept r.index && has_lengths records r.index (length r.key) (length r.body)

abbrev pub patched_image : PatchView → Image → Image
patched_image p i = record i { track = record i.track { records = patched p i.track.records } }

-- the image has what the patch needs, and the track that comes of it fits
abbrev pub applies : PatchView → Image → Bool
applies p i =
    reaches p.kept i.track.records
    && (list_all (is_replaceable p.kept i.track.records) p.replaced && is_fit i.geometry (patched p i.track.records))

-- the image with the patch, or nothing where the patch is unfit for it
abbrev pub applied : PatchView → Image → Option Image
applied p i = if applies p i then Some (patched_image p i) else None
