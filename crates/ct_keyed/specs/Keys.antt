-- The hash key of a text.
use Rattle.std.specs.Prelude.{ℕ, List, take, drop}
use Rattle.std.specs.Int.{w64, from_le_bytes}
use Rattle.core.specs.declared.hash.sip.DefaultHasher.{DefaultHasher}
use Rattle.core.specs.Hash.DefaultHasher.{with_keys}
use Rattle.sha2.specs.Sha256.{sha256}
use Rattle.ct_keyed.specs.declared.HashKey.{HashKey}

-- the first sixteen bytes of a digest, as two numbers, the lowest byte first
abbrev pub key_of_digest : List ℕ → HashKey
key_of_digest digest = record {
  first = from_le_bytes w64 (take 8 digest);
  second = from_le_bytes w64 (take 8 (drop 8 digest));
}

-- the hash key of a text, from its SHA-256 digest
abbrev pub key_of : List ℕ → HashKey
key_of bytes = key_of_digest (sha256 bytes)

-- SipHash-1-3 with this key, before any byte
abbrev pub first_hasher : HashKey → DefaultHasher
first_hasher key = with_keys key.first key.second
