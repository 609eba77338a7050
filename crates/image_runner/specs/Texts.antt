-- What is written where nothing runs.
use Rattle.std.specs.Prelude.{ℕ, List, [], ◌++◌, codes, decimal}
use Rattle.ckd_types.specs.declared.geometry.Geometry.{Geometry}
use Rattle.ckd_types.specs.declared.geometry.Geometry.TheVariants.{D3390, D3380}
use Rattle.disk_image.specs.declared.fault.ImageFault.{ImageFault}
use Rattle.disk_image.specs.declared.fault.ImageFault.TheVariants as images
use Rattle.disk_image.specs.declared.layout.Layout.{Layout}
use Rattle.image_runner.specs.declared.mounting.MountFault.{MountFault}
use Rattle.image_runner.specs.declared.mounting.MountFault.TheVariants as faults
use Rattle.image_runner.specs.declared.mounting.Refusal.{Refusal}

unfoldable pub word_text : ℕ → List ℕ → List ℕ
word_text d word = codes "image " ++ (decimal d ++ (codes ": " ++ (word ++ codes "\n")))

unfoldable pub number_text : ℕ → List ℕ → ℕ → List ℕ
number_text d word n = codes "image " ++ (decimal d ++ (codes ": " ++ (word ++ (codes " " ++ (decimal n ++ codes "\n")))))

abbrev pub model_text : Geometry → List ℕ
model_text D3390 = codes "3390"
model_text D3380 = codes "3380"

unfoldable pub other_text : ℕ → Layout → Layout → List ℕ
other_text d image device =
    codes "image "
    ++ (decimal d
    ++ (codes ": "
    ++ (model_text image.geometry
    ++ (codes " "
    ++ (decimal image.cylinders
    ++ (codes ", device " ++ (model_text device.geometry ++ (codes " " ++ (decimal device.cylinders ++ codes "\n")))))))))

abbrev pub bad_text : ℕ → ImageFault → List ℕ
bad_text d (images.BadHead offset) = number_text d (codes "head offset") offset
bad_text d (images.BadLength size) = number_text d (codes "length") size
bad_text d (images.BadTrack track offset) = number_text d (codes "track offset") offset
bad_text d (images.ManyCylinders n) = number_text d (codes "cylinders") n
bad_text d images.Compressed = word_text d (codes "compressed")
bad_text d images.Parts = word_text d (codes "parts")
bad_text d images.FileFault = word_text d (codes "file")
bad_text d images.NoMemory = word_text d (codes "file")

abbrev pub fault_text : ℕ → MountFault → List ℕ
fault_text d faults.Device = word_text d (codes "no device")
fault_text d (faults.Other image device) = other_text d image device
fault_text d (faults.Bad fault) = bad_text d fault
fault_text d faults.File = word_text d (codes "file")
fault_text d faults.NoMemory = []

abbrev pub refusal_text : Refusal → List ℕ
refusal_text r = fault_text r.device r.fault

unfoldable pub usage_text : List ℕ
usage_text = codes "usage: ON D=FILE ..\n"
