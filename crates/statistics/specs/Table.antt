-- The numbers behind the scores, in thousandths: the 180 entries of polyfit's `T_TABLE` and the six constants of its `Confidence::z_score`, each list once.
-- The t and z scores read these lists (`Scores.antt`), and the crate `student` proves of each number which quantile it is. The falling and rising rule of
-- the t table is one law, by a test that antt computes over the whole table (`TableLaws.antt`).
-- The table has a row of six for each number of degrees of freedom from 1 to 30; the columns are the confidences 0.8, 0.9, 0.95, 0.98, 0.99 and 0.999. polyfit
-- prints three decimals, from the third entry of the first row on two: its 12.71 is 12710 here, and its 2.92 is 2920. Definitions only.
use Rattle.std.specs.Prelude.{ℕ, zero, suc, ◌+◌, ◌*◌, Bool, true, ◌&&◌, List, [], ◌∷◌, slice_index}

unfoldable pub thousandths : List ℕ
thousandths =
    3078 ∷ 6314 ∷ 12710 ∷ 31820 ∷ 63660 ∷ 636620 ∷
    1886 ∷ 2920 ∷ 4303 ∷ 6965 ∷ 9925 ∷ 31599 ∷
    1638 ∷ 2353 ∷ 3182 ∷ 4541 ∷ 5841 ∷ 12924 ∷
    1533 ∷ 2132 ∷ 2776 ∷ 3747 ∷ 4604 ∷ 8610 ∷
    1476 ∷ 2015 ∷ 2571 ∷ 3365 ∷ 4032 ∷ 6869 ∷
    1440 ∷ 1943 ∷ 2447 ∷ 3143 ∷ 3707 ∷ 5959 ∷
    1415 ∷ 1895 ∷ 2365 ∷ 2998 ∷ 3499 ∷ 5408 ∷
    1397 ∷ 1860 ∷ 2306 ∷ 2896 ∷ 3355 ∷ 5041 ∷
    1383 ∷ 1833 ∷ 2262 ∷ 2821 ∷ 3250 ∷ 4781 ∷
    1372 ∷ 1812 ∷ 2228 ∷ 2764 ∷ 3169 ∷ 4587 ∷
    1363 ∷ 1796 ∷ 2201 ∷ 2718 ∷ 3106 ∷ 4437 ∷
    1356 ∷ 1782 ∷ 2179 ∷ 2681 ∷ 3055 ∷ 4318 ∷
    1350 ∷ 1771 ∷ 2160 ∷ 2650 ∷ 3012 ∷ 4221 ∷
    1345 ∷ 1761 ∷ 2145 ∷ 2624 ∷ 2977 ∷ 4140 ∷
    1341 ∷ 1753 ∷ 2131 ∷ 2602 ∷ 2947 ∷ 4073 ∷
    1337 ∷ 1746 ∷ 2120 ∷ 2583 ∷ 2921 ∷ 4015 ∷
    1333 ∷ 1740 ∷ 2110 ∷ 2567 ∷ 2898 ∷ 3965 ∷
    1330 ∷ 1734 ∷ 2101 ∷ 2552 ∷ 2878 ∷ 3922 ∷
    1328 ∷ 1729 ∷ 2093 ∷ 2539 ∷ 2861 ∷ 3883 ∷
    1325 ∷ 1725 ∷ 2086 ∷ 2528 ∷ 2845 ∷ 3850 ∷
    1323 ∷ 1721 ∷ 2080 ∷ 2518 ∷ 2831 ∷ 3819 ∷
    1321 ∷ 1717 ∷ 2074 ∷ 2508 ∷ 2819 ∷ 3792 ∷
    1319 ∷ 1714 ∷ 2069 ∷ 2500 ∷ 2807 ∷ 3768 ∷
    1318 ∷ 1711 ∷ 2064 ∷ 2492 ∷ 2797 ∷ 3745 ∷
    1316 ∷ 1708 ∷ 2060 ∷ 2485 ∷ 2787 ∷ 3725 ∷
    1315 ∷ 1706 ∷ 2056 ∷ 2479 ∷ 2779 ∷ 3707 ∷
    1314 ∷ 1703 ∷ 2052 ∷ 2473 ∷ 2771 ∷ 3690 ∷
    1313 ∷ 1701 ∷ 2048 ∷ 2467 ∷ 2763 ∷ 3674 ∷
    1311 ∷ 1699 ∷ 2045 ∷ 2462 ∷ 2756 ∷ 3659 ∷
    1310 ∷ 1697 ∷ 2042 ∷ 2457 ∷ 2750 ∷ 3646 ∷ []

-- the entry in a row and a column, both from 0
unfoldable pub table_entry : ℕ → ℕ → ℕ
table_entry row col = slice_index thousandths (row * 6 + col)

-- the z scores of the same six confidences
unfoldable pub z_thousandths : List ℕ
z_thousandths = 1281 ∷ 1644 ∷ 1959 ∷ 2326 ∷ 2575 ∷ 3290 ∷ []

-- ---- a test over a whole table

-- the test f passes at every number below n
unfoldable pub all_below : (ℕ → Bool) → ℕ → Bool
all_below f zero = true
all_below f (suc n) = f n && all_below f n
