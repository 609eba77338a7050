-- The program of each kind.
use Rattle.std.specs.Prelude.{ℕ, List, [], ◌∷◌, ◌++◌}
use Rattle.std.specs.Int.{w64, to_be_bytes}
use Rattle.ckd_types.specs.declared.channel.Ccw.{Ccw}
use Rattle.ckd_types.specs.Geometry.{cchh_of}
use Rattle.ckd_types.specs.Track.{cchh_bytes}
use Rattle.deck_gen.specs.declared.choice.Kind.{Kind}
use Rattle.deck_gen.specs.declared.choice.Kind.TheVariants.{Format, Update, Read, ReadTracks}

abbrev pub place_bytes : ℕ → List ℕ
place_bytes t = cchh_bytes (cchh_of t)

-- define extent: all 30 tracks, with blocks of 4,096 bytes
abbrev pub extent_word : ℕ → ℕ → Ccw
extent_word mask attributes = record {
  command = 0x63;
  flags = 0x40;
  count = 16;
  given = mask ∷ attributes ∷ 0x10 ∷ 0 ∷ 0 ∷ 0 ∷ 0 ∷ 0 ∷ 0 ∷ 0 ∷ 0 ∷ 0 ∷ 0 ∷ 1 ∷ 0 ∷ 0x0e ∷ [];
}

-- locate record: count commands of an operation from record r of track t on
abbrev pub locate_word : ℕ → ℕ → ℕ → ℕ → Ccw
locate_word operation count t r = record {
  command = 0x47;
  flags = 0x40;
  count = 16;
  given = (operation ∷ 0 ∷ 0 ∷ count ∷ []) ++ place_bytes t ++ place_bytes t ++ (r ∷ 0 ∷ 0 ∷ 0 ∷ []);
}

-- write count, key and data: record r of track t, whose 4,096 bytes of data begin with x
abbrev pub format_word : ℕ → ℕ → ℕ → ℕ → Ccw
format_word flags t r x = record {
  command = 0x1d;
  flags = flags;
  count = 4104;
  given = place_bytes t ++ (r ∷ 0 ∷ 0x10 ∷ 0 ∷ []) ++ to_be_bytes w64 x;
}

-- update data: eight bytes
abbrev pub update_word : ℕ → Ccw
update_word x = record { command = 0x85; flags = 0x20; count = 8; given = to_be_bytes w64 x }

-- a read
abbrev pub read_word : ℕ → ℕ → ℕ → Ccw
read_word command flags count = record { command = command; flags = flags; count = count; given = [] }

-- four records of a track are formatted
abbrev pub format_words : ℕ → ℕ → List Ccw
format_words t x =
    extent_word 0xc0 0xc0 ∷ locate_word 0x03 4 t 0
    ∷ format_word 0x40 t 1 x ∷ format_word 0x40 t 2 x ∷ format_word 0x40 t 3 x ∷ format_word 0x00 t 4 x ∷ []

-- record 1 is updated
abbrev pub update_words : ℕ → ℕ → List Ccw
update_words t x = extent_word 0x80 0xc0 ∷ locate_word 0x01 1 t 1 ∷ update_word x ∷ []

-- records 1 and 2 are read
abbrev pub read_words : ℕ → List Ccw
read_words t = extent_word 0x40 0xc0 ∷ locate_word 0x06 2 t 1 ∷ read_word 0x86 0x60 4096 ∷ read_word 0x86 0x20 4096 ∷ []

-- the track and the next one are read, in sequential mode
abbrev pub track_words : ℕ → List Ccw
track_words t = extent_word 0x40 0xcc ∷ locate_word 0x0c 2 t 0 ∷ read_word 0xde 0x60 65535 ∷ read_word 0xde 0x20 65535 ∷ []

abbrev pub program_of : Kind → ℕ → ℕ → List Ccw
program_of Format t x = format_words t x
program_of Update t x = update_words t x
program_of Read t x = read_words t
program_of ReadTracks t x = track_words t
