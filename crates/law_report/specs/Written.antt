-- The report line of the smallest sample, and parts of the reports of two other images, written
-- out: an entry of each kind, and the members beside the entries.
use Rattle.std.specs.Prelude.{ℕ, List, [], ◌∷◌, ◌++◌, codes}

-- the sample `tiny`
abbrev pub tiny_line : List ℕ
tiny_line =
    codes "{\"compartments\":[\"app\"],\"devices\":[{\"base\":268435456,\"kind\":\"uart\","
    ++ codes "\"name\":\"uart0\"}],\"edges\":[],\"entries\":[{\"base\":2147483648,"
    ++ codes "\"kind\":\"code\",\"length\":48,\"number\":1,\"owner\":\"app\","
    ++ codes "\"rights\":\"GL LG LM LD MC EX\"},{\"base\":2147483728,\"kind\":\"globals\","
    ++ codes "\"length\":16,\"number\":2,\"owner\":\"app\",\"rights\":\"GL LG SD LM LD MC\"},"
    ++ codes "{\"base\":65536,\"kind\":\"service\",\"length\":8,\"name\":\"switch\",\"number\":3,"
    ++ codes "\"of\":\"switch\",\"owner\":\"app\",\"rights\":\"GL LD MC EX\"},{\"base\":268435456,"
    ++ codes "\"kind\":\"device\",\"length\":16,\"name\":\"uart\",\"number\":4,\"of\":\"uart0\","
    ++ codes "\"owner\":\"app\",\"rights\":\"GL SD\"},{\"args\":6,\"base\":2147483712,"
    ++ codes "\"kind\":\"export\",\"length\":16,\"name\":\"main\",\"number\":5,\"owner\":\"app\","
    ++ codes "\"passes\":\"capabilities\",\"posture\":\"enabled\",\"rights\":\"GL LD\","
    ++ codes "\"stack\":0},{\"base\":2147483744,\"kind\":\"stack\",\"length\":256,\"number\":6,"
    ++ codes "\"owner\":\"t\",\"rights\":\"LG SD LM SL LD MC\"}],\"firmware\":\"tiny\","
    ++ codes "\"heap\":{\"base\":2147484304,\"length\":3440},\"libraries\":[],\"quantum\":100,"
    ++ codes "\"threads\":[{\"entry\":5,\"name\":\"t\",\"priority\":1}]}"
    ++ 10 ∷ []

-- the sample `board`, without its entries
abbrev pub board_frame : List ℕ
board_frame =
    codes "{\"compartments\":[\"app\",\"driver\"],\"devices\":[{\"base\":268435456,"
    ++ codes "\"kind\":\"uart\",\"name\":\"uart0\"}],\"edges\":[],\"entries\":[],"
    ++ codes "\"firmware\":\"board\",\"heap\":{\"base\":2147485008,\"length\":2736},"
    ++ codes "\"libraries\":[\"hex\"],\"quantum\":20,\"threads\":[{\"entry\":8,\"name\":\"t\","
    ++ codes "\"priority\":1},{\"entry\":8,\"name\":\"u\",\"priority\":1}]}"

-- entry 3 of `board`
abbrev pub board_switch : List ℕ
board_switch =
    codes "{\"base\":65536,\"kind\":\"service\",\"length\":8,\"name\":\"switch\",\"number\":3,"
    ++ codes "\"of\":\"switch\",\"owner\":\"app\",\"rights\":\"GL LD MC EX\"}"

-- entry 4 of `board`
abbrev pub board_library : List ℕ
board_library =
    codes "{\"base\":2147483888,\"kind\":\"library\",\"length\":16,\"name\":\"digit\","
    ++ codes "\"number\":4,\"of\":\"hex.digit\",\"owner\":\"app\","
    ++ codes "\"rights\":\"GL LG LM LD MC EX\"}"

-- entry 5 of `board`
abbrev pub board_call : List ℕ
board_call =
    codes "{\"base\":2147483856,\"kind\":\"call\",\"length\":16,\"name\":\"put\",\"number\":5,"
    ++ codes "\"of\":\"driver.put\",\"owner\":\"app\",\"rights\":\"GL LD\"}"

-- entry 6 of `board`
abbrev pub board_service : List ℕ
board_service =
    codes "{\"base\":65632,\"kind\":\"service\",\"length\":8,\"name\":\"allocate\","
    ++ codes "\"number\":6,\"of\":\"allocate\",\"owner\":\"app\",\"rights\":\"GL LD MC EX\"}"

-- entry 7 of `board`
abbrev pub board_quota : List ℕ
board_quota =
    codes "{\"base\":2147483680,\"kind\":\"quota\",\"length\":8,\"limit\":64,\"name\":\"q\","
    ++ codes "\"number\":7,\"owner\":\"app\",\"rights\":\"GL LD\"}"

-- entry 13 of `board`
abbrev pub board_data_export : List ℕ
board_data_export =
    codes "{\"args\":1,\"base\":2147483856,\"kind\":\"export\",\"length\":16,\"name\":\"put\","
    ++ codes "\"number\":13,\"owner\":\"driver\",\"passes\":\"data\",\"posture\":\"enabled\","
    ++ codes "\"rights\":\"GL LD\",\"stack\":0}"

-- entry 15 of `board`
abbrev pub board_library_export : List ℕ
board_library_export =
    codes "{\"base\":2147483888,\"kind\":\"export\",\"length\":16,\"name\":\"digit\","
    ++ codes "\"number\":15,\"owner\":\"hex\",\"posture\":\"inherit\","
    ++ codes "\"rights\":\"GL LG LM LD MC EX\"}"

-- entry 17 of `board`
abbrev pub board_stack : List ℕ
board_stack =
    codes "{\"base\":2147484160,\"kind\":\"stack\",\"length\":256,\"number\":17,"
    ++ codes "\"owner\":\"u\",\"rights\":\"LG SD LM SL LD MC\"}"

-- the image with a slot of each kind, without its entries
abbrev pub whole_frame : List ℕ
whole_frame =
    codes "{\"compartments\":[\"a234567890b234567890c234567890_2\"],"
    ++ codes "\"devices\":[{\"base\":4294967280,\"kind\":\"timer\",\"name\":\"time\"},{\"base\":0,"
    ++ codes "\"kind\":\"gpio\",\"name\":\"pins\"}],\"edges\":[],\"entries\":[],"
    ++ codes "\"firmware\":\"w\",\"heap\":{\"base\":4288723248,\"length\":6244032},"
    ++ codes "\"libraries\":[\"one\",\"two\"],\"quantum\":1000000,\"threads\":[{\"entry\":13,"
    ++ codes "\"name\":\"t\",\"priority\":15}]}"

-- entry 5 of `whole`
abbrev pub whole_shared : List ℕ
whole_shared =
    codes "{\"base\":4287635456,\"kind\":\"shared\",\"length\":1048576,\"name\":\"ring\","
    ++ codes "\"number\":5,\"of\":\"ring\",\"owner\":\"a234567890b234567890c234567890_2\","
    ++ codes "\"rights\":\"GL LG SD LM LD MC\"}"

-- entry 6 of `whole`
abbrev pub whole_sealed : List ℕ
whole_sealed =
    codes "{\"base\":4288684032,\"kind\":\"sealed\",\"length\":16,\"name\":\"box\","
    ++ codes "\"number\":6,\"of\":\"box\",\"owner\":\"a234567890b234567890c234567890_2\","
    ++ codes "\"rights\":\"GL SD LD\",\"type\":15}"

-- entry 10 of `whole`
abbrev pub whole_key : List ℕ
whole_key =
    codes "{\"base\":13,\"kind\":\"key\",\"length\":1,\"name\":\"key13\",\"number\":10,"
    ++ codes "\"owner\":\"a234567890b234567890c234567890_2\",\"rights\":\"GL US SE\"}"

-- entry 13 of `whole`
abbrev pub whole_handler : List ℕ
whole_handler =
    codes "{\"args\":6,\"base\":4286578784,\"kind\":\"export\",\"length\":16,"
    ++ codes "\"name\":\"handler\",\"number\":13,\"owner\":\"a234567890b234567890c234567890_2\","
    ++ codes "\"passes\":\"data\",\"posture\":\"disabled\",\"rights\":\"GL LD\",\"stack\":32752}"
