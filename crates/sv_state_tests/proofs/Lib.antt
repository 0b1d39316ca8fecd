mod Standings
