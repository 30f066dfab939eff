-- The program of bpf that gives a frame its class if gates are in software: 6 or 7 by the parity of the cycle in which the frame arrives.
-- It is an object of 456 octets for a little-endian machine. Its code is the section tc of that object, eight instructions.
use Rattle.std.specs.Prelude.{ℕ, ◌+◌, ◌/◌, ◌%◌, ◌++◌, Bool, List, [], ◌∷◌, codes, if◌then◌else◌}
use Rattle.cqf_model.specs.Domain.{Domain}

-- an octet as printf takes it: three octal digits
abbrev pub octal : ℕ → List ℕ
octal octet = 92 ∷ (48 + octet / 64) ∷ (48 + octet / 8 % 8) ∷ (48 + octet % 8) ∷ []

-- the four octets of a number below 2^32, the lowest first
abbrev pub octal_word : ℕ → List ℕ
octal_word number = octal (number % 256) ++ (octal (number / 256 % 256) ++ (octal (number / 65536 % 256) ++ octal (number / 16777216 % 256)))

-- what follows the cycle time
abbrev pub object_end : List ℕ
object_end =
    codes "W\\0\\0\\0\\1\\0\\0\\0\\7\\0\\0\\0\\6\\0\\0\\0'\n"
    ++ (codes "    # the frame's priority = r0, r0 = -1, the end\n    printf 'c\\6 \\0\\0\\0\\0\\0\\267\\0\\0\\0\\377\\377\\377\\377\\225\\0\\0\\0\\0\\0\\0\\0'\n"
    ++ (codes "    # symbols, names\n    printf '\\0\\0\\0\\0\\0\\0\\0\\0\\0\\0\\0\\0\\0\\0\\0\\0\\0\\0\\0\\0\\0\\0\\0\\0\\1\\0\\0\\0\\22\\0\\1\\0\\0\\0\\0\\0\\0\\0\\0\\0@\\0\\0\\0\\0\\0\\0\\0'\n"
    ++ (codes "    printf '\\0tc\\0.symtab\\0.strtab\\0\\0\\0\\0\\0'\n    # sections: none, tc, .symtab, .strtab\n"
    ++ (codes "    printf '\\0\\0\\0\\0\\0\\0\\0\\0\\0\\0\\0\\0\\0\\0\\0\\0\\0\\0\\0\\0\\0\\0\\0\\0\\0\\0\\0\\0\\0\\0\\0\\0'\n"
    ++ (codes "    printf '\\0\\0\\0\\0\\0\\0\\0\\0\\0\\0\\0\\0\\0\\0\\0\\0\\0\\0\\0\\0\\0\\0\\0\\0\\0\\0\\0\\0\\0\\0\\0\\0'\n"
    ++ (codes "    printf '\\1\\0\\0\\0\\1\\0\\0\\0\\6\\0\\0\\0\\0\\0\\0\\0\\0\\0\\0\\0\\0\\0\\0\\0@\\0\\0\\0\\0\\0\\0\\0'\n"
    ++ (codes "    printf '@\\0\\0\\0\\0\\0\\0\\0\\0\\0\\0\\0\\0\\0\\0\\0\\10\\0\\0\\0\\0\\0\\0\\0\\0\\0\\0\\0\\0\\0\\0\\0'\n"
    ++ (codes "    printf '\\4\\0\\0\\0\\2\\0\\0\\0\\0\\0\\0\\0\\0\\0\\0\\0\\0\\0\\0\\0\\0\\0\\0\\0\\200\\0\\0\\0\\0\\0\\0\\0'\n"
    ++ (codes "    printf '\\60\\0\\0\\0\\0\\0\\0\\0\\3\\0\\0\\0\\1\\0\\0\\0\\10\\0\\0\\0\\0\\0\\0\\0\\30\\0\\0\\0\\0\\0\\0\\0'\n"
    ++ (codes "    printf '\\14\\0\\0\\0\\3\\0\\0\\0\\0\\0\\0\\0\\0\\0\\0\\0\\0\\0\\0\\0\\0\\0\\0\\0\\260\\0\\0\\0\\0\\0\\0\\0'\n"
    ++ codes "    printf '\\30\\0\\0\\0\\0\\0\\0\\0\\0\\0\\0\\0\\0\\0\\0\\0\\1\\0\\0\\0\\0\\0\\0\\0\\0\\0\\0\\0\\0\\0\\0\\0'\n}\n\n"))))))))))

-- the function that writes the object
abbrev pub object_text : ℕ → List ℕ
object_text cycle_time =
    codes "# the program that gives a frame its class, as an object of bpf: 6, and 1 more in an odd cycle\nprogram() {\n    # the head of the file\n"
    ++ (codes "    printf '\\177ELF\\2\\1\\1\\0\\0\\0\\0\\0\\0\\0\\0\\0\\1\\0\\367\\0\\1\\0\\0\\0\\0\\0\\0\\0\\0\\0\\0\\0\\0\\0\\0\\0\\0\\0\\0\\0'\n"
    ++ (codes "    printf '\\310\\0\\0\\0\\0\\0\\0\\0\\0\\0\\0\\0@\\0\\0\\0\\0\\0@\\0\\4\\0\\3\\0'\n"
    ++ (codes "    # r6 = the frame, r0 = the time by bpf_ktime_get_tai_ns\n    printf '\\277\\26\\0\\0\\0\\0\\0\\0\\205\\0\\0\\0\\320\\0\\0\\0'\n"
    ++ (codes "    # r0 /= the cycle time, r0 &= 1, r0 += 6\n    printf '7\\0\\0\\0"
    ++ (octal_word cycle_time
    ++ object_end)))))

-- the function is written if gates are in software
abbrev pub program_text : Domain → Bool → List ℕ
program_text d software = if software then object_text d.cycle_time else []
