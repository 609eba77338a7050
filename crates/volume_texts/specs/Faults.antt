-- What is written of a volume file that is refused.
use Rattle.std.specs.Prelude.{ℕ, List, [], ◌++◌, codes, decimal}
use Rattle.volume_file.specs.declared.fault.LoadFault.{LoadFault}
use Rattle.volume_file.specs.declared.fault.LoadFault.TheVariants.{BadHead, BadTrack, Trailing, ReadFault, NoMemory}

unfoldable pub head_text : ℕ → List ℕ
head_text offset = codes "bad file head offset " ++ (decimal offset ++ codes "\n")

unfoldable pub track_text : ℕ → ℕ → List ℕ
track_text track offset = codes "bad file track " ++ (decimal track ++ (codes " offset " ++ (decimal offset ++ codes "\n")))

unfoldable pub trailing_text : ℕ → List ℕ
trailing_text offset = codes "bad file trailing offset " ++ (decimal offset ++ codes "\n")

-- what is written of a file that is refused
abbrev pub refused_text : LoadFault → List ℕ
refused_text (BadHead offset) = head_text offset
refused_text (BadTrack track offset) = track_text track offset
refused_text (Trailing offset) = trailing_text offset
refused_text ReadFault = []
refused_text NoMemory = []
