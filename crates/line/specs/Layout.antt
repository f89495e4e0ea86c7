-- How numbers and parts lie in a line, and the widths that every kind shares.
use Rattle.std.specs.Prelude.{ℕ, zero, suc, ◌+◌, ◌-◌, ◌*◌, ◌/◌, ◌%◌, ◌^◌, List, [], ◌∷◌, take, drop}

-- the part of a line that begins at an offset and has a width
abbrev pub part : ℕ → ℕ → List ℕ → List ℕ
part at width bytes = take width (drop at bytes)

-- the number that bytes write, the lowest byte first
abbrev pub number : List ℕ → ℕ
number [] = 0
number (b ∷ bs) = b + 256 * number bs

-- the number of a width at an offset
abbrev pub number_at : ℕ → ℕ → List ℕ → ℕ
number_at width at bytes = number (part at width bytes)

-- the bytes of a number, the lowest first
unfoldable pub bytes_of : ℕ → ℕ → List ℕ
bytes_of zero n = []
bytes_of (suc width) n = n % 256 ∷ bytes_of width (n / 256)

-- every line begins with its size, kind, sender and view, and ends with its tag
abbrev pub size_at : ℕ
size_at = 0

abbrev pub size_width : ℕ
size_width = 2

-- the largest size that the size field tells
abbrev pub most_size : ℕ
most_size = 256 ^ size_width - 1

abbrev pub kind_at : ℕ
kind_at = size_at + size_width

abbrev pub kind_width : ℕ
kind_width = 2

abbrev pub sender_at : ℕ
sender_at = kind_at + kind_width

abbrev pub sender_width : ℕ
sender_width = 2

abbrev pub view_at : ℕ
view_at = sender_at + sender_width

abbrev pub view_width : ℕ
view_width = 4

abbrev pub header_size : ℕ
header_size = view_at + view_width

-- the widths of the parts that lie between header and tag, and of the tag
abbrev pub stamp_width : ℕ
stamp_width = 4

abbrev pub place_width : ℕ
place_width = 4

abbrev pub client_width : ℕ
client_width = 2

abbrev pub count_width : ℕ
count_width = 2

abbrev pub replica_width : ℕ
replica_width = 2

abbrev pub body_width : ℕ
body_width = 16

abbrev pub reply_width : ℕ
reply_width = 8

abbrev pub history_width : ℕ
history_width = 32

abbrev pub print_width : ℕ
print_width = 32

abbrev pub tag_width : ℕ
tag_width = 32
