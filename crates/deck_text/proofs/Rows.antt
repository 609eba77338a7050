-- What a few texts are, computed.
use Rattle.std.proofs.Common.{◌≡◌, [], refl, Err}
use Rattle.std.specs.Prelude.{codes}
use Rattle.hex.specs.Hex.{decode_pairs}
use Rattle.deck_text.specs.declared.line.DeckWhy.TheVariants.{Unfinished, Number, Words}
use Rattle.deck_text.specs.declared.line.DeckFault.TheVariants.{Refused}
use Rattle.deck_text.specs.Keywords.{head_of, event_word_of}
use Rattle.deck_text.specs.Forms.{is_one}
use Rattle.deck_text.specs.Parse.{parsed}

no_text : parsed [] ≡ Err (Refused 1 Unfinished)
no_text = refl

no_frames : parsed (codes "DECK 1\nCACHE 0\n") ≡ Err (Refused 2 Number)
unfolding head_of event_word_of is_one
no_frames = refl

cut_off : parsed (codes "DECK 1\nCACHE 1\nSTORE 0\nDEVICE 0 3390 1\nPROGRAM 1 0\nCCW 03 00 1\nCCW 47 40") ≡ Err (Refused 7 Words)
unfolding head_of event_word_of is_one decode_pairs
cut_off = refl
