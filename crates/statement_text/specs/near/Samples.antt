-- Parameter files that test vectors share, and their lines.
use Rattle.std.specs.Prelude.{ℕ, List, ◌++◌, codes}

-- ---- lines

-- the SET record of D1
abbrev pub set_d1 : List ℕ
set_d1 = codes "SET,D1,1,USD\n"

-- a commodity without a minimum for short options
abbrev pub commodity : List ℕ → List ℕ
commodity id = codes "COMMODITY," ++ id ++ codes ",0,SUM\n"

-- a future with these fields up to its delta, which loses 400 for each third of the scan range that the price falls
abbrev pub future : List ℕ → List ℕ
future fields =
    codes "CONTRACT," ++ fields
    ++ codes ",1,0,0,-400,-400,400,400,-800,-800,800,800,-1200,-1200,1200,1200,-1188,1188\n"

-- futures of AA with delta 1, for different months
abbrev pub fa : List ℕ
fa = future (codes "FA,AA,F,202503,1")

abbrev pub fa2 : List ℕ
fa2 = future (codes "FA2,AA,F,202506,1")

-- a future of BB, which loses 300 for each third of the scan range that the price falls
abbrev pub fb : List ℕ
fb = codes "CONTRACT,FB,BB,F,202503,1,1,0,0,-300,-300,300,300,-600,-600,600,600,-900,-900,900,900,-891,891\n"

-- a call that gains in every scenario, and a put that never changes; after their values, the fields that a profile adds
abbrev pub ca : List ℕ → List ℕ
ca more = codes "CONTRACT,CA,AA,C,202503,0.5,1,-5,-3,-9,-7,-4,-2,-12,-11,-3,-1,-20,-19,-2,-1,-15,-1" ++ more ++ codes "\n"

abbrev pub pa : List ℕ → List ℕ
pa more = codes "CONTRACT,PA,AA,P,202503,-0.5,1,0,0,0,0,0,0,0,0,0,0,0,0,0,0,0,0" ++ more ++ codes "\n"

-- ---- files

-- a parameter set with one future, of delta 1 and scale 1
abbrev pub one_future : List ℕ
one_future = set_d1 ++ commodity (codes "AA") ++ fa

-- two futures in two tiers, with this spread between the tiers, and a spot month
abbrev pub spread_and_spot : List ℕ → List ℕ
spread_and_spot spread =
    one_future ++ fa2 ++ codes "TIER,AA,1,202501,202504\n" ++ codes "TIER,AA,2,202505,202512\n"
    ++ codes "INTRA,AA,1," ++ spread ++ codes "\n" ++ codes "SPOT,AA,202503,10,20\n"

-- two commodities with a future each, this one in the first, and a spread between them
abbrev pub two_commodities : List ℕ → List ℕ → List ℕ
two_commodities first spread =
    set_d1 ++ commodity (codes "AA") ++ commodity (codes "BB") ++ first ++ fb ++ codes "INTER,1," ++ spread ++ codes "\n"
