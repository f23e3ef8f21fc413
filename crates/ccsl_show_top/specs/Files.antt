-- WHAT IS DONE WITH THE FILES of a command, by their names.
use Rattle.std.specs.Prelude.{ℕ, List, Bool, false, not, ◌&&◌, ◌||◌, Option, Some, None, nat_eq, if◌then◌else◌, codes}
use Rattle.std.specs.Str.{bytes_eq}
use Rattle.ccsl_show_top.specs.declared.files.Found.{Found}
use Rattle.ccsl_show_top.specs.declared.files.Found.TheVariants.{File, Other, Nothing}
use Rattle.ccsl_show_top.specs.declared.files.Identity.{Identity}

-- the file of a key is written by a command, and not read: a trace that is drawn with its certificate, or the certificate of an explanation
abbrev pub is_written : List ℕ → List ℕ → Bool
is_written command key =
    if bytes_eq command (codes "simulate") then not (bytes_eq key (codes "spec"))
    else bytes_eq command (codes "explain") && bytes_eq key (codes "cert")

-- a file can be read once more: one that lies on a disk, or is still to be written, and is not what stands at standard input
abbrev pub is_read_again : List ℕ → Found → Bool
is_read_again name File = not (bytes_eq name (codes "/dev/stdin"))
is_read_again name Other = false
is_read_again name Nothing = not (bytes_eq name (codes "/dev/stdin"))

-- the system knows both files, and by the same device and number
abbrev pub are_same : Option Identity → Option Identity → Bool
are_same (Some a) (Some b) = nat_eq a.device b.device && nat_eq a.number b.number
are_same (Some a) None = false
are_same None b = false

-- two names lead to one file
abbrev pub are_one : List ℕ → List ℕ → Option Identity → Option Identity → Bool
are_one one other a b = bytes_eq one other || are_same a b
